use mathlib.Core.Path.{◌≡◌}
use Prim.Native.Nat.{◌+◌, ◌*◌}
use Rattle.segment_pack.specs.Needs.{packed_to}
use Rattle.segment_pack.proofs.put_eight.Given as goal

abbrev pub invariant-loop-j : goal.invariant-loop-j
invariant-loop-j l = l.block ≡ packed_to l.entries (l.c * 8 + l.j)
