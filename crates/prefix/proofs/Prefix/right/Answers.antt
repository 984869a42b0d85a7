use native.Mathlib.Omega.{arith}
use borrow.Author.Tests.{lt-ltb, le-ltb}
use Rattle.bits.proofs.Prefix.{halves}
use borrow.Author.Rules.{rules}
use Rattle.prefix.proofs.Prefix.right.Goals as goal

pub overflow_cast-result-then-self-lt32 : goal.overflow_cast-result-then-self-lt32
overflow_cast-result-then-self-lt32 c = let p = c.args.self in
    omega (
      arith,
      (halves 32 p.value p.len (search rules) (search rules)).right_valid.fits,
      c.span_of.ensures.is,
      c.first.ensures,
    )

pub returns-then-self-lt32 : goal.returns-then-self-lt32
returns-then-self-lt32 c = simp (lt-ltb _ _ c.if-self-lt32.true, c.span_of.ensures.is, c.first.ensures)

pub returns-else-self-lt32 : goal.returns-else-self-lt32
returns-else-self-lt32 c = simp (le-ltb _ _ c.if-self-lt32.false)
