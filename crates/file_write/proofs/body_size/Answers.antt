use native.Mathlib.Omega.{arith}
use Rattle.routes.specs.Routes.{route_at, route_count}
use Rattle.octets.proofs.Parts.{summed_none, summed_more}
use Rattle.file_write.proofs.Bodies.{route_coding, counted_small, counted_all}
use Rattle.file_write.proofs.body_size.Goals as goal

pub loop-i-init : goal.loop-i-init
loop-i-init c = let list = c.args.list.now in
    summed_none (route_coding 32) (route_at list) (route_count list)

pub overflow_add-size : goal.overflow_add-size
overflow_add-size c = omega (arith, counted_small 32 c.args.list.now c.requires _ _ c.loop-i.invariant, c.route_size-size.ensures.small)

pub loop-i-preserved : goal.loop-i-preserved
loop-i-preserved c = let list = c.args.list.now in
    summed_more (route_coding 32) (route_at list) (route_count list) _ _ c.loop-i.invariant c.loop-i-test.true _ _ c.route_at-r.ensures c.route_size-size.ensures.is

pub returns : goal.returns
returns c = counted_all 32 c.args.list.now c.requires _ _ c.loop-i.invariant c.loop-i-test.false
