use Rattle.octets.specs.Gives.{NumberAt}
use Rattle.octets.proofs.number_of.Given as goal

abbrev pub invariant-loop-j : goal.invariant-loop-j
invariant-loop-j l = NumberAt l.bytes l.from l.j l.sum
