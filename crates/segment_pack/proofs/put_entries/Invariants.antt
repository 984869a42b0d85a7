use mathlib.Core.Path.{◌≡◌}
use Prim.Native.Nat.{◌*◌}
use Rattle.segment_pack.specs.Needs.{packed_to}
use Rattle.segment_pack.proofs.put_entries.Given as goal

abbrev pub invariant-loop-c : goal.invariant-loop-c
invariant-loop-c l = l.block ≡ packed_to l.entries (l.c * 8)
