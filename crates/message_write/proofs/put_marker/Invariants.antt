use Rattle.message_write.proofs.Heads.{Marking}
use Rattle.message_write.proofs.put_marker.Given as goal

abbrev pub invariant-loop-i : goal.invariant-loop-i
invariant-loop-i l = Marking l.initial.message l.message l.i
