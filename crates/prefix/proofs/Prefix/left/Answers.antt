use borrow.Author.Tests.{lt-ltb, le-ltb}
use Rattle.prefix.proofs.Prefix.left.Goals as goal

pub returns-then-self-lt32 : goal.returns-then-self-lt32
returns-then-self-lt32 c = simp (lt-ltb _ _ c.if-self-lt32.true, c.first.ensures)

pub returns-else-self-lt32 : goal.returns-else-self-lt32
returns-else-self-lt32 c = simp (le-ltb _ _ c.if-self-lt32.false)
