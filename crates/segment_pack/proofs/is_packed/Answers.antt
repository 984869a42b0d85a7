use mathlib.Core.Path.{◌≡◌, ◌∙◌, ap, sym}
use Prim.Native.Nat.{ℕ}
use native.Mathlib.Omega.{arith}
use lib.Dec.{leb}
use Rattle.lists.proofs.Below.{number_zero}
use Rattle.segment_rules.specs.Packed.{ones_below}
use Rattle.segment_pack.proofs.Codewords.{ones_more}
use Rattle.segment_pack.proofs.is_packed.Goals as goal

pub loop-i-init : goal.loop-i-init
loop-i-init c = (omega arith, sym (number_zero _))

pub loop-i-preserved : goal.loop-i-preserved
loop-i-preserved c = (omega (arith, c.bit_of-ones.ensures.1), ones_more _ _ _ _ c.loop-i.invariant.1 c.bit_of-ones.ensures.0)

pub returns : goal.returns
returns c = let e : c.loop-i.i ≡ 256 = omega arith in
    ap (λ (k : ℕ). leb k 64) (c.loop-i.invariant.1 ∙ ap (ones_below _) e)
