use borrow.Author.Tests.{lt-ltb, le-ltb}
use Rattle.image_search.proofs.goes_on.Goals as goal

pub returns-then-y : goal.returns-then-y
returns-then-y c = simp (le-ltb _ _ c.if-y.true)

pub returns : goal.returns
returns c = simp (lt-ltb _ _ c.if-y.false, c.route_at.ensures)
