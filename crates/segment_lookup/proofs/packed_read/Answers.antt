use mathlib.Core.Path.{sym, ◌∙◌}
use borrow.Author.Tests.{lt-leb}
use Rattle.segment_rules.specs.Lookup.{packed_read}
use Rattle.segment_lookup.proofs.Ranked.{packed_before, packed_past, packed_within}
use Rattle.segment_lookup.proofs.packed_read.Goals as goal

pub returns-then-packed-from : goal.returns-then-packed-from
unfolding packed_read
returns-then-packed-from c = simp (lt-leb _ _ c.if-packed-from.true) c.lost.ensures

pub returns-then-rank-eq0 : goal.returns-then-rank-eq0
returns-then-rank-eq0 c = c.lost-then-rank-eq0.ensures
    ∙ sym (packed_before _ _ _ _ c.if-packed-from.false _ c.rank_read-rank.ensures.0 c.if-rank-eq0.true)

pub returns-then-rank-gt-MOST_KEPT : goal.returns-then-rank-gt-MOST_KEPT
returns-then-rank-gt-MOST_KEPT c = c.lost-then-rank-gt-MOST_KEPT.ensures
    ∙ sym (packed_past _ _ _ _ c.if-packed-from.false _ c.rank_read-rank.ensures.0 c.if-rank-gt-MOST_KEPT.true)

pub returns : goal.returns
returns c = c.entry_read.ensures
    ∙ sym (packed_within _ _ _ _ c.if-packed-from.false _ c.rank_read-rank.ensures.0
    _ c.if-rank-eq0.false c.if-rank-gt-MOST_KEPT.false c.from.ensures)
