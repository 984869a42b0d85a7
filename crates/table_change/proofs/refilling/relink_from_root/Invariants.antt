use mathlib.Core.Path.{◌≡◌}
use Rattle.table_rows.specs.Words.{five_words}
use Rattle.table_rules.specs.Withdraw.{relink}
use Rattle.table_change.proofs.refilling.relink_from_root.Given as goal

abbrev pub invariant-loop-left : goal.invariant-loop-left
invariant-loop-left l = (relink five_words 32 l.left l.rows l.row l.value l.last l.freed ≡ relink five_words 32 32 l.initial.rows 0 l.value l.last l.freed)
