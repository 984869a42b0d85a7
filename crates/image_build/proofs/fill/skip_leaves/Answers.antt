use mathlib.Core.Path.{◌≡◌, ap}
use Prim.Native.Nat.{ℕ, ◌+◌, ◌-◌}
use native.Mathlib.Omega.{arith}
use lib.Pow.{shl_exact}
use Rattle.image_build.proofs.LeafSlots.{ones_fit, filled_leaves_lem}
use Rattle.image_build.proofs.fill.skip_leaves.Goals as goal

pub overflow_sub-bits : goal.overflow_sub-bits
overflow_sub-bits c = let a = c.args in
    omega (arith, shl_exact {a = a.st.bitmap + 1} 17 a.count 64 (omega (arith, c.requires.1)) (omega (arith, c.requires.0)), (ones_fit a.st.bitmap a.count c.requires.1 c.requires.0).0)

pub overflow_cast-result : goal.overflow_cast-result
overflow_cast-result c = let a = c.args in
    let o = ones_fit a.st.bitmap a.count c.requires.1 c.requires.0 in
    omega (arith, shl_exact {a = a.st.bitmap + 1} 17 a.count 64 (omega (arith, c.requires.1)) (omega (arith, c.requires.0)), o.0, o.1)

pub returns : goal.returns
returns c = let a = c.args in
    let e : c.after.result.0 ≡ a.st.leaf.0 + a.count = omega (arith, c.after.ensures, c.requires.2) in
    filled_leaves_lem a.st a.count _ c.after.result (ap (λ (n : ℕ). n - 1) (shl_exact {a = a.st.bitmap + 1} 17 a.count 64 (omega (arith, c.requires.1)) (omega (arith, c.requires.0)))) e
