use Rattle.list_insert.proofs.Loops.{Sinking}
use Rattle.list_insert.proofs.sink_route.Given as goal

abbrev pub invariant-loop-i : goal.invariant-loop-i
invariant-loop-i l = Sinking l.initial.list l.fn.at l.fn.end l.q l.list l.i
