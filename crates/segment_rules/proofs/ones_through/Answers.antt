-- The bits are cut after the entry's own: 8 - (j + 1) is 7 - j.
use mathlib.Core.Path.{◌≡◌, ap}
use Prim.Native.Nat.{ℕ, ◌+◌, ◌-◌, ◌/◌, ◌%◌, ◌^◌}
use native.Mathlib.Omega.{arith}
use native.Mathlib.Nat.{div-le_self}
use lib.Count.{ones, ones-le}
use Rattle.segment_rules.proofs.ones_through.Goals as goal

pub returns : goal.returns
returns c = let b = c.args.bits in
    let j : ℕ = c.args.i % 8 in
    let e : 7 - j ≡ 8 - (j + 1) = omega arith in
    (ap (λ (k : ℕ). ones (b / 2 ^ k)) e, ones-le 32 (b / 2 ^ (7 - j)) (omega (arith, div-le_self b (2 ^ (7 - j)))))
