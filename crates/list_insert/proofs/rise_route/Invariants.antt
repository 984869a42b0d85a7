use Rattle.list_insert.proofs.Loops.{Rising}
use Rattle.list_insert.proofs.rise_route.Given as goal

abbrev pub invariant-loop-i : goal.invariant-loop-i
invariant-loop-i l = Rising l.initial.list l.fn.at l.fn.end l.q l.list l.i
