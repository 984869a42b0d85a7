use Prim.Native.Nat.{◌-◌}
use lib.ListN.{length}
use Rattle.file_read.proofs.Steps.{Reached}
use Rattle.file_read.proofs.check_file.Given as goal

abbrev pub invariant-loop-c : goal.invariant-loop-c
invariant-loop-c l = Reached 32 l.file l.c

abbrev pub decreases-loop-c : goal.decreases-loop-c
decreases-loop-c l = length l.file - l.c.at
