use Prim.Native.Nat.{◌-◌}
use lib.ListN.{length}
use Rattle.message_check.proofs.Walk.{Passed}
use Rattle.message_check.proofs.part_check.Given as goal

abbrev pub invariant-loop-at : goal.invariant-loop-at
invariant-loop-at l = Passed 32 l.part l.from l.at

abbrev pub decreases-loop-at : goal.decreases-loop-at
decreases-loop-at l = length l.part - l.at
