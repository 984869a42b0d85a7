use mathlib.Core.Path.{◌≡◌}
use Rattle.table_rows.specs.Words.{five_words}
use Rattle.message_calls.specs.Named.{holds}
use Rattle.message_calls.specs.Steps.{folded, drop_one}
use Rattle.message_apply.specs.Needs.{table_as}
use Rattle.message_rules.specs.Left.{left}
use Rattle.message_rules.specs.Message.{prefixes_in}
use Rattle.message_apply.proofs.drop_part.Given as goal

abbrev pub invariant-loop-p : goal.invariant-loop-p
invariant-loop-p l = folded (drop_one five_words 32 (holds 32 (five_words.get l.seen) l.met)) (table_as l.rows l.n) (left l.p-iterator) ≡ folded (drop_one five_words 32 (holds 32 (five_words.get l.seen) l.met)) (table_as l.initial.rows l.count) (prefixes_in 32 l.part)
