use borrow.Author.Tests.{le-leb, lt-leb}
use Rattle.segment_rules.specs.Lookup.{last_read}
use Rattle.segment_lookup.proofs.last_read.Goals as goal

pub returns-then-last-from : goal.returns-then-last-from
unfolding last_read
returns-then-last-from c = simp (lt-leb _ _ c.if-last-from.true) c.lost.ensures

pub returns : goal.returns
unfolding last_read
returns c = simp (le-leb _ _ c.if-last-from.false) (cc)
