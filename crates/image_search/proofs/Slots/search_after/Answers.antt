use borrow.Author.Tests.{eq-eqb, ne_eqb}
use Rattle.image_search.proofs.Slots.search_after.Goals as goal

pub returns-then-y-short : goal.returns-then-y-short
returns-then-y-short c = rw (eq-eqb _ _ c.if-y-short.true) c.search_from.ensures

pub returns : goal.returns
returns c = rw (ne_eqb _ _ c.if-y-short.false)
