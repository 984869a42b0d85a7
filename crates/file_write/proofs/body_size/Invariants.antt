use Rattle.file_write.proofs.Bodies.{Counted}
use Rattle.file_write.proofs.body_size.Given as goal

abbrev pub invariant-loop-i : goal.invariant-loop-i
invariant-loop-i l = Counted 32 l.list l.size l.i
