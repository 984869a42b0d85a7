use Rattle.std.proofs.Common.{ap, sym, ◌∙◌, Err}
use Rattle.promise.specs.Over.{outcome}
use Rattle.refusals.specs.Refusals.{answered}
use Rattle.many_rules.proofs.Many.{short_is_refused}
use Rattle.many_rules.proofs.Filling.{filling_none, filling_more, filling_all}
use Rattle.many_rules.proofs.lookup_each.Goals as goal

pub returns-then-out-addresses : goal.returns-then-out-addresses
returns-then-out-addresses g c =
    ap (λ r. outcome (answered (Err r)) c.args.out.now) c.at.ensures
    ∙ sym (short_is_refused (g.L.Lookup.look c.args.lookup.now) c.args.addresses.now c.args.out.now c.if-out-addresses.true)

pub loop-i-init : goal.loop-i-init
loop-i-init g c = filling_none (g.L.Lookup.look c.args.lookup.now) c.args.addresses.now c.args.out.now

pub loop-i-preserved : goal.loop-i-preserved
loop-i-preserved g c =
    filling_more (g.L.Lookup.look c.args.lookup.now) c.args.addresses.now c.args.out.now c.loop-i.out c.loop-i.some c.loop-i.i c.element-found.result
    c.if-out-addresses.false c.loop-i.invariant c.loop-i-test.true c.element-found.ensures

pub returns : goal.returns
returns g c =
    ap (λ a. outcome a c.loop-i.out) c.told.ensures
    ∙ filling_all (g.L.Lookup.look c.args.lookup.now) c.args.addresses.now c.args.out.now c.loop-i.out c.loop-i.some c.loop-i.i
    c.if-out-addresses.false c.loop-i.invariant c.loop-i-test.false
