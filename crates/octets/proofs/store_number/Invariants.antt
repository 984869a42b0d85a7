use Rattle.octets.proofs.Store.{Digits}
use Rattle.octets.proofs.store_number.Given as goal

abbrev pub invariant-loop-j : goal.invariant-loop-j
invariant-loop-j l = Digits l.initial.bytes l.at l.k l.x l.bytes l.j
