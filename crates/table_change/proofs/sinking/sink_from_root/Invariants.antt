use Rattle.table_rows.specs.Words.{five_words}
use Rattle.table_change.proofs.Announce.{Sinking}
use Rattle.table_change.proofs.sinking.sink_from_root.Given as goal

abbrev pub invariant-loop-left : goal.invariant-loop-left
invariant-loop-left l = Sinking five_words 32 l.initial.rows l.rows l.n l.initial.q l.q l.left l.row
