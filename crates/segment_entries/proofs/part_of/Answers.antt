use Rattle.segment_entries.proofs.Parts.{placed_low, placed_high, placed_past_plain, placed_plain, placed_past_packed, placed_packed}
use Rattle.segment_entries.proofs.part_of.Goals as goal

pub returns-then-entry-lt-POINTER : goal.returns-then-entry-lt-POINTER
returns-then-entry-lt-POINTER c = placed_low _ _ _ c.if-entry-lt-POINTER.true

pub returns-then-entry : goal.returns-then-entry
returns-then-entry c = placed_high _ _ _ c.if-entry.true

pub returns-then-plain-from : goal.returns-then-plain-from
returns-then-plain-from c = placed_past_plain _ _ _ c.if-entry-lt-POINTER.false c.if-entry.false c.if-entry-ge-PLAIN_POINTER.true c.if-plain-from.true

pub returns-then-entry-ge-PLAIN_POINTER : goal.returns-then-entry-ge-PLAIN_POINTER
returns-then-entry-ge-PLAIN_POINTER c = placed_plain _ _ _ c.if-entry-lt-POINTER.false c.if-entry.false c.if-entry-ge-PLAIN_POINTER.true c.if-plain-from.false

pub returns-then-packed-from : goal.returns-then-packed-from
returns-then-packed-from c = placed_past_packed _ _ _ c.if-entry-lt-POINTER.false c.if-entry.false c.if-entry-ge-PLAIN_POINTER.false c.if-packed-from.true

pub returns : goal.returns
returns c = placed_packed _ _ _ c.if-entry-lt-POINTER.false c.if-entry.false c.if-entry-ge-PLAIN_POINTER.false c.if-packed-from.false
