use Rattle.segment_build.proofs.segments.walk_after.Goals as goal

pub returns-then-packed : goal.returns-then-packed
returns-then-packed c = rw c.if-packed.true

pub returns : goal.returns
returns c = rw c.if-packed.false
