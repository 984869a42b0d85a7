use borrow.Author.Tests.{lt-ltb, le-ltb}
use Rattle.segment_rules.specs.Lookup.{first_read}
use Rattle.segment_lookup.proofs.many.first_element.Goals as goal

pub returns-then-entry-lt-POINTER : goal.returns-then-entry-lt-POINTER
unfolding first_read
returns-then-entry-lt-POINTER c = simp (lt-ltb _ _ c.if-entry-lt-POINTER.true) (cc)

pub returns-then-entry-lt-PLAIN_POINTER : goal.returns-then-entry-lt-PLAIN_POINTER
unfolding first_read
returns-then-entry-lt-PLAIN_POINTER c = simp (le-ltb _ _ c.if-entry-lt-POINTER.false, lt-ltb _ _ c.if-entry-lt-PLAIN_POINTER.true) (cc)

pub returns : goal.returns
unfolding first_read
returns c = simp (le-ltb _ _ c.if-entry-lt-POINTER.false, le-ltb _ _ c.if-entry-lt-PLAIN_POINTER.false) (cc)
