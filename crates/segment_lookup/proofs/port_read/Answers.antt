use borrow.Author.Tests.{le-leb, lt-leb}
use Rattle.segment_lookup.proofs.port_read.Goals as goal

pub returns-then-entry-gt-LAST_PORT : goal.returns-then-entry-gt-LAST_PORT
returns-then-entry-gt-LAST_PORT c = simp (lt-leb _ _ c.if-entry-gt-LAST_PORT.true) c.lost.ensures

pub returns : goal.returns
returns c = simp (le-leb _ _ c.if-entry-gt-LAST_PORT.false)
