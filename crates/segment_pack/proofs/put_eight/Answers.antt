use Rattle.segment_pack.proofs.Packed.{rank_some, place_lt, eight_more}
use Rattle.segment_pack.proofs.put_eight.Goals as goal

pub overflow_sub-block : goal.overflow_sub-block
overflow_sub-block c = rank_some _ _ _ c.requires.0 c.requires.1 _ c.loop-j-test.true _ c.loop-j.invariant _ c.rank_of-rank.ensures.0

pub bounds-block-rank : goal.bounds-block-rank
bounds-block-rank c = place_lt _ _ _ c.requires.0 c.requires.1 _ c.loop-j-test.true _ c.loop-j.invariant _ c.rank_of-rank.ensures.0

pub loop-j-preserved : goal.loop-j-preserved
loop-j-preserved c = eight_more _ _ _ c.requires.0 c.requires.1 _ c.loop-j-test.true _ c.loop-j.invariant _ c.rank_of-rank.ensures.0
