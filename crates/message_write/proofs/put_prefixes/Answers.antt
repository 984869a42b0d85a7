use mathlib.Core.Path.{ap, ◌∙◌}
use Rattle.octets.specs.Octets.{prefix_put}
use native.Mathlib.Omega.{arith}
use Rattle.routes.specs.Routes.{route_at, route_count}
use Rattle.octets.proofs.Store.{prefix_fits}
use Rattle.octets.proofs.Parts.{laid_none, laid_next, laid_more, laid_all}
use Rattle.message_rules.specs.Message.{withdrawn_at}
use Rattle.message_write.proofs.Listed.{prefix_coding, listed_room}
use Rattle.message_write.proofs.put_prefixes.Goals as goal

pub loop-i-init : goal.loop-i-init
loop-i-init c = let a = c.args in
    let list = a.list.now in
    laid_none (prefix_coding 32) (route_at list) (route_count list) withdrawn_at a.message.now

pub overflow_add-at : goal.overflow_add-at
overflow_add-at c = let list = c.args.list.now in
    omega (arith, laid_next (prefix_coding 32) (route_at list) (route_count list) withdrawn_at c.args.message.now c.requires.room c.loop-i.message c.loop-i.at c.loop-i.i c.loop-i.invariant c.loop-i-test.true _ _ c.route_at-r.ensures c.prefix_size-at.ensures.is, c.loop-i.invariant.same)

pub loop-i-preserved : goal.loop-i-preserved
loop-i-preserved c = let list = c.args.list.now in
    let room = listed_room 32 list c.args.message.now c.requires c.loop-i.message c.loop-i.at c.loop-i.i c.loop-i.invariant c.loop-i-test.true _ c.route_at-r.ensures in
    laid_more (prefix_coding 32) (route_at list) (route_count list) withdrawn_at c.args.message.now c.requires.room c.loop-i.message c.loop-i.at c.loop-i.i c.loop-i.invariant c.loop-i-test.true _ _ _ c.route_at-r.ensures c.prefix_size-at.ensures.is (c.put_prefix.ensures ∙ ap (λ p. prefix_put 32 c.loop-i.message c.loop-i.at p.value p.len) c.prefix.ensures ∙ prefix_fits 32 _ _ _ _ room.1 room.0)

pub shape_of-message : goal.shape_of-message
shape_of-message c = c.loop-i.invariant.same

pub returns : goal.returns
returns c = let list = c.args.list.now in
    laid_all (prefix_coding 32) (route_at list) (route_count list) withdrawn_at c.args.message.now c.requires.room c.loop-i.message c.loop-i.at c.loop-i.i c.loop-i.invariant c.loop-i-test.false
