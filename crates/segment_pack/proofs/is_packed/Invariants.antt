use mathlib.Core.Path.{◌≡◌}
use Prim.Native.Nat.{◌≤◌}
use Rattle.segment_rules.specs.Packed.{ones_below}
use Rattle.segment_pack.proofs.is_packed.Given as goal

abbrev pub invariant-loop-i : goal.invariant-loop-i
invariant-loop-i l = (l.ones ≤ l.i) × (l.ones ≡ ones_below l.entries l.i)
