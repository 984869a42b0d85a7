use mathlib.Core.Path.{◌≡◌}
use Prim.Native.Nat.{max, ◌≤◌}
use Rattle.segment_ports.specs.RunSearch.{run_count, run_of}
use Rattle.segment_ports.proofs.run_of.Given as goal

abbrev pub invariant-loop-run : goal.invariant-loop-run
invariant-loop-run l = record {
  within : l.run ≤ max l.from (run_count l.runs);
  is : run_of l.runs l.from l.address ≡ run_of l.runs l.run l.address;
}
