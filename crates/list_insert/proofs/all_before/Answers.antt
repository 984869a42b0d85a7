use borrow.Author.Tests.{le-leb, lt-leb}
use Rattle.list_insert.proofs.all_before.Goals as goal

pub returns-then-middle-at : goal.returns-then-middle-at
returns-then-middle-at c = simp (le-leb _ _ c.if-middle-at.true)

pub returns : goal.returns
returns c = simp (lt-leb _ _ c.if-middle-at.false, c.stands_before.ensures, c.whole_route.ensures)
