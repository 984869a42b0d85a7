use Rattle.message_write.proofs.Listed.{Listed}
use Rattle.message_write.proofs.put_prefixes.Given as goal

abbrev pub invariant-loop-i : goal.invariant-loop-i
invariant-loop-i l = Listed 32 l.list l.initial.message l.message l.at l.i
