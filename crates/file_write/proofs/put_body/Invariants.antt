use Rattle.file_write.proofs.Bodies.{Bodied}
use Rattle.file_write.proofs.put_body.Given as goal

abbrev pub invariant-loop-i : goal.invariant-loop-i
invariant-loop-i l = Bodied 32 l.list l.initial.file l.file l.at l.i
