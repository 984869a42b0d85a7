use mathlib.Core.Path.{sym, ◌∙◌}
use borrow.Author.Tests.{le-leb, lt-leb, lt-ltb, le-ltb}
use Rattle.list_insert.specs.Insertion.{inserted}
use Rattle.list_insert.proofs.Loops.{inserted_within}
use Rattle.list_insert.proofs.insert_route.Goals as goal

pub returns-then-middle-at : goal.returns-then-middle-at
unfolding inserted
returns-then-middle-at c = simp (lt-leb _ _ c.if-middle-at.true)

pub returns-then-end-middle : goal.returns-then-end-middle
unfolding inserted
returns-then-end-middle c = simp (le-leb _ _ c.if-middle-at.false, le-ltb _ _ c.if-end-middle.true)

pub returns-then-list-end : goal.returns-then-list-end
unfolding inserted
returns-then-list-end c = simp (le-leb _ _ c.if-middle-at.false, lt-ltb _ _ c.if-end-middle.false, lt-leb _ _ c.if-list-end.true)

pub returns : goal.returns
returns c = let a = c.args in
    c.place_route.ensures
    ∙ sym (inserted_within a.list.now a.at a.middle a.end a.q c.if-middle-at.false c.if-end-middle.false c.if-list-end.false)
