use Rattle.message_write.proofs.Listed.{Counted}
use Rattle.message_write.proofs.prefixes_size.Given as goal

abbrev pub invariant-loop-i : goal.invariant-loop-i
invariant-loop-i l = Counted 32 l.list l.size l.i
