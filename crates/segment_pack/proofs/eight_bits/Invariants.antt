use mathlib.Core.Path.{◌≡◌}
use Prim.Native.Nat.{◌*◌}
use Rattle.lists.specs.Numbered.{list_of}
use Rattle.bits.specs.Bits.{value}
use Rattle.segment_rules.specs.Packed.{is_one}
use Rattle.segment_pack.proofs.eight_bits.Given as goal

abbrev pub invariant-loop-j : goal.invariant-loop-j
invariant-loop-j l = l.bits ≡ value (list_of (is_one l.entries) l.j (l.c * 8))
