use mathlib.Core.Path.{◌≡◌}
use Prim.Native.Nat.{◌/◌, ◌^◌, ◌<◌, ◌≤◌}
use native.Mathlib.Omega.{arith}
use native.Mathlib.Nat.{div-eq_of_lt}
use lib.Pow.{pow_mono}
use Rattle.prefix.proofs.bit_before.Goals as goal

pub returns-else-k-lt32 : goal.returns-else-k-lt32
returns-else-k-lt32 c = let a = c.args in
    let le : 32 ≤ a.k = omega arith in
    let small : a.address < 2 ^ a.k = omega (arith, pow_mono le) in
    let none : a.address / 2 ^ a.k ≡ 0 = div-eq_of_lt small in
    rw none
