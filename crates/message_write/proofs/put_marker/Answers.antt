use native.Mathlib.Omega.{arith}
use Rattle.message_write.proofs.Heads.{marking_none, marking_more, marking_all}
use Rattle.message_write.proofs.put_marker.Goals as goal

pub loop-i-init : goal.loop-i-init
loop-i-init c = marking_none c.args.message.now

pub bounds-message-i : goal.bounds-message-i
bounds-message-i c = omega (arith, c.loop-i.invariant.same)

pub loop-i-preserved : goal.loop-i-preserved
loop-i-preserved c = marking_more c.args.message.now c.requires c.loop-i.message c.loop-i.i c.loop-i.invariant c.loop-i-test.true

pub shape_of-message : goal.shape_of-message
shape_of-message c = c.loop-i.invariant.same

pub returns : goal.returns
returns c = marking_all c.args.message.now c.requires c.loop-i.message c.loop-i.i c.loop-i.invariant c.loop-i-test.false
