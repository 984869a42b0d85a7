use native.Mathlib.Omega.{arith}
use Rattle.segment_build.proofs.LastBlocks.{last_none, number_le, length_last_stored, last_on, y_low, last_room, last_more, last_all}
use Rattle.segment_build.proofs.stores.fill_last.Goals as goal

pub loop-i-init : goal.loop-i-init
loop-i-init c = last_none _ _ _ _ c.requires

pub put_last-run-requires : goal.put_last-run-requires
put_last-run-requires c = (
  last_room _ _ _ _ c.requires c.loop-i.invariant c.loop-i-test.true _ c.route_at-route.ensures _ c.begins_new.ensures c.if-not-begins_new.false _ c.block_of-y.ensures.0,
  y_low _ _ _ _ c.requires c.loop-i.invariant c.loop-i-test.true _ c.route_at-route.ensures _ c.begins_new.ensures c.if-not-begins_new.false _ c.block_of-y.ensures.0,
)

pub overflow_add-next : goal.overflow_add-next
overflow_add-next c = omega (arith, c.block_of-y.ensures.1)

pub overflow_add-number : goal.overflow_add-number
overflow_add-number c = omega (arith, number_le _ _ _ _ c.requires c.loop-i.invariant, c.requires.ready.valid.few)

pub loop-i-preserved : goal.loop-i-preserved
loop-i-preserved c = last_more _ _ _ _ c.requires c.loop-i.invariant c.loop-i-test.true _ c.route_at-route.ensures _ c.begins_new.ensures c.if-not-begins_new.false _ c.block_of-y.ensures.0 _ _ c.put_last-run.ensures

pub loop-i-preserved-then-not-begins_new : goal.loop-i-preserved-then-not-begins_new
loop-i-preserved-then-not-begins_new c = last_on _ _ _ _ c.requires c.loop-i.invariant c.loop-i-test.true _ c.route_at-route.ensures _ c.begins_new.ensures c.if-not-begins_new.true

pub shape_of-last : goal.shape_of-last
shape_of-last c = length_last_stored _ _ _ _ c.requires c.loop-i.invariant

pub returns : goal.returns
returns c = last_all _ _ _ _ c.requires c.loop-i.invariant (omega arith)
