use mathlib.Core.Path.{sym, subst}
use Prim.Native.Nat.{ℕ, min}
use native.Mathlib.Nat.{min-eq_right}
use native.Mathlib.Omega.{arith}
use Rattle.octets.specs.Gives.{NumberAt}
use Rattle.octets.proofs.Numbers.{number_there}
use Rattle.octets.proofs.number_at.Goals as goal

pub number_of-requires : goal.number_of-requires
number_of-requires c = (omega (arith, c.left_from-left.ensures), omega (arith, c.if-left-most.true, c.up_to-most.ensures.1))

pub returns-then-left-most : goal.returns-then-left-most
returns-then-left-most c = let a = c.args in
    let k : ℕ = min a.k 4 in
    number_there a.bytes.now a.from k _ _ _ c.left_from-left.ensures
    (sym (min-eq_right (omega (arith, c.if-left-most.true, c.up_to-most.ensures.0)))) c.number_of.ensures

pub number_of-requires-2 : goal.number_of-requires-2
number_of-requires-2 c = (omega (arith, c.left_from-left.ensures, c.if-left-most.false), c.up_to-most.ensures.1)

pub returns : goal.returns
returns c = let a = c.args in
    subst (λ (k : ℕ). NumberAt a.bytes.now a.from k c.number_of-2.result) c.up_to-most.ensures.0 c.number_of-2.ensures
