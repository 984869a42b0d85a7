use Prim.Native.Nat.{◌*◌, ◌^◌, ◌≤◌}
use native.Mathlib.Nat.{le-div_iff_mul-le}
use lib.Pow.{pow_pos}
use native.Mathlib.Omega.{arith}
use borrow.Author.Tests.{le-leb, lt-leb}
use Rattle.segment_ports.specs.RunSearch.{past_of}
use Rattle.segment_ports.proofs.past_of.Goals as goal

pub returns-then-block-size : goal.returns-then-block-size
unfolding past_of
returns-then-block-size c = let e = c.run_end.ensures in rw (← e, le-leb _ _ c.if-block-size.true)

pub overflow_sub-result : goal.overflow_sub-result
overflow_sub-result c = let a = c.args in
    let h : a.block * 2 ^ a.shift ≤ c.run_end.result = omega (arith, c.run_end.ensures, c.requires.1) in
    omega (arith, (le-div_iff_mul-le (pow_pos a.shift)).1 h)

pub returns : goal.returns
unfolding past_of
returns c = let e = c.run_end.ensures in rw (← e, lt-leb _ _ c.if-block-size.false)
