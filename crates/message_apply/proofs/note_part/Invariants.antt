use mathlib.Core.Path.{◌≡◌}
use Prim.Native.Nat.{◌+◌, ◌≤◌}
use lib.ListN.{length}
use Rattle.table_rows.specs.Words.{five_words}
use Rattle.message_calls.specs.Named.{holds}
use Rattle.message_calls.specs.Steps.{folded, note_one}
use Rattle.message_apply.specs.Needs.{noted_as}
use Rattle.message_rules.specs.Left.{left}
use Rattle.message_rules.specs.Message.{prefixes_in}
use Rattle.message_apply.proofs.note_part.Given as goal

abbrev pub invariant-loop-p : goal.invariant-loop-p
invariant-loop-p l = record {
  is : folded (note_one five_words 32 (holds 32 (five_words.get l.rows) l.n) l.port) (noted_as l.seen l.t) (left l.p-iterator) ≡ folded (note_one five_words 32 (holds 32 (five_words.get l.rows) l.n) l.port) (noted_as l.initial.seen l.initial.t) (prefixes_in 32 l.part);
  met : l.t.met + length (left l.p-iterator) ≤ l.initial.t.met + length (prefixes_in 32 l.part);
  hits : l.t.hits + length (left l.p-iterator) ≤ l.initial.t.hits + length (prefixes_in 32 l.part);
}
