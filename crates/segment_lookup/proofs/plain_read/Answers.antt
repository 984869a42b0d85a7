use borrow.Author.Tests.{le-leb, lt-leb}
use Rattle.segment_rules.specs.Lookup.{plain_read}
use Rattle.segment_lookup.proofs.plain_read.Goals as goal

pub returns-then-plain-from : goal.returns-then-plain-from
unfolding plain_read
returns-then-plain-from c = simp (lt-leb _ _ c.if-plain-from.true) c.lost.ensures

pub returns : goal.returns
unfolding plain_read
returns c = simp (le-leb _ _ c.if-plain-from.false) (cc)
