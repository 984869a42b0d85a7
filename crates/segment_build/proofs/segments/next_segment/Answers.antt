use native.Mathlib.Omega.{arith}
use Rattle.segment_build.proofs.Walking.{meets, goes_by, next_met, walked_end}
use Rattle.segment_build.proofs.segments.next_segment.Goals as goal

pub loop-i-init : goal.loop-i-init
loop-i-init c = c.requires.2

pub segment_at-requires : goal.segment_at-requires
segment_at-requires c = meets _ _ _ _ _ _ c.route_at-route.ensures _ c.begins_new.ensures c.requires.0 c.loop-i.invariant c.loop-i-test.true c.if-begins_new.true _ c.block_of.ensures.0

pub returns-then-begins_new : goal.returns-then-begins_new
returns-then-begins_new c = next_met _ _ _ _ _ _ _ _ (omega arith)
    (meets _ _ _ _ _ _ c.route_at-route.ensures _ c.begins_new.ensures c.requires.0 c.loop-i.invariant c.loop-i-test.true c.if-begins_new.true _ c.block_of.ensures.0)
    c.segment_at.ensures

pub loop-i-preserved : goal.loop-i-preserved
loop-i-preserved c = goes_by _ _ _ _ _ _ c.route_at-route.ensures _ c.begins_new.ensures c.requires.0 c.loop-i.invariant c.if-begins_new.false

pub returns : goal.returns
returns c = walked_end _ _ _ _ _ c.loop-i.invariant (omega (arith, c.requires.1))
