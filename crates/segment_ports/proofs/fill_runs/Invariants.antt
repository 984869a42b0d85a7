use Prim.Native.Nat.{◌-◌}
use Rattle.segment_ports.proofs.Fills.{FilledTo}
use Rattle.segment_ports.proofs.fill_runs.Given as goal

abbrev pub invariant-loop-k : goal.invariant-loop-k
invariant-loop-k l = FilledTo l.runs l.initial.entries l.from l.block l.shift l.size l.run l.k l.entries

abbrev pub decreases-loop-k : goal.decreases-loop-k
decreases-loop-k l = l.size - l.k
