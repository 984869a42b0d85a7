use mathlib.Core.Path.{◌≡◌, ◌∙◌, ap}
use Prim.Native.Nat.{ℕ, ◌*◌}
use native.Mathlib.Omega.{arith}
use Rattle.lists.specs.Numbered.{list_of}
use Rattle.bits.specs.Bits.{value}
use Rattle.segment_rules.specs.Packed.{is_one, eight_bits}
use Rattle.segment_pack.proofs.Codewords.{bits_none, bits_more, bits_small}
use Rattle.segment_pack.proofs.eight_bits.Goals as goal

pub loop-j-init : goal.loop-j-init
loop-j-init c = bits_none _ _

pub overflow_mul-bits : goal.overflow_mul-bits
overflow_mul-bits c = omega (arith, bits_small _ _ _ _ (omega arith) c.loop-j.invariant)

pub overflow_add-bits : goal.overflow_add-bits
overflow_add-bits c = omega (arith, c.bit_of.ensures.1, bits_small _ _ _ _ (omega arith) c.loop-j.invariant)

pub loop-j-preserved : goal.loop-j-preserved
loop-j-preserved c = bits_more _ _ _ _ _ c.loop-j.invariant c.bit_of.ensures.0

pub returns : goal.returns
returns c = let a = c.args in
    let e : c.loop-j.j ≡ 8 = omega arith in
    let is : c.loop-j.bits ≡ eight_bits a.entries.now a.c =
    c.loop-j.invariant ∙ ap (λ (k : ℕ). value (list_of (is_one a.entries.now) k (a.c * 8))) e in
    (is, bits_small a.entries.now (a.c * 8) 8 _ (omega arith) is)
