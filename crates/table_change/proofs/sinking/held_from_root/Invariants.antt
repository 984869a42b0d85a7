use mathlib.Core.Path.{◌≡◌}
use Rattle.table_rows.specs.Words.{five_words}
use Rattle.table_rules.specs.Announce.{held_at}
use Rattle.table_change.proofs.sinking.held_from_root.Given as goal

abbrev pub invariant-loop-left : goal.invariant-loop-left
invariant-loop-left l = held_at 32 (five_words.get l.rows) l.left l.row l.q ≡ held_at 32 (five_words.get l.rows) 32 0 l.q
