use borrow.Author.Tests.{lt-ltb, le-ltb}
use Rattle.segment_rules.specs.Lookup.{entry_read}
use Rattle.segment_lookup.proofs.entry_read.Goals as goal

pub returns-then-entry-lt-POINTER : goal.returns-then-entry-lt-POINTER
unfolding entry_read
returns-then-entry-lt-POINTER c = simp (lt-ltb _ _ c.if-entry-lt-POINTER.true) c.port_read.ensures

pub returns : goal.returns
unfolding entry_read
returns c = simp (le-ltb _ _ c.if-entry-lt-POINTER.false) c.last_read.ensures
