use borrow.Author.Tests.{le-leb, lt-leb}
use Rattle.segment_rules.specs.Lookup.{lookup_in}
use Rattle.segment_lookup.proofs.lookup.Goals as goal

pub returns-then-first-lt-FIRST_SIZE : goal.returns-then-first-lt-FIRST_SIZE
unfolding lookup_in
returns-then-first-lt-FIRST_SIZE c = simp (lt-leb _ _ c.if-first-lt-FIRST_SIZE.true) c.lost.ensures

pub returns : goal.returns
unfolding lookup_in
returns c = simp (le-leb _ _ c.if-first-lt-FIRST_SIZE.false) (cc)
