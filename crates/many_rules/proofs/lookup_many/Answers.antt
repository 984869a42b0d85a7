use Rattle.std.proofs.Common.{ap, sym, get_or, ◌∙◌, Err, arith}
use Rattle.promise.specs.Over.{outcome}
use Rattle.refusals.specs.Refusals.{answered}
use Rattle.many_rules.proofs.Many.{short_is_refused}
use Rattle.many_rules.proofs.Filling.{filling_none, filling_more, filling_all}
use Rattle.many_rules.proofs.lookup_many.Goals as goal

pub returns-then-out-addresses : goal.returns-then-out-addresses
returns-then-out-addresses g c = λ look gives.
    ap (λ r. outcome (answered (Err r)) c.args.out.now) c.at.ensures
    ∙ sym (short_is_refused look c.args.addresses.now c.args.out.now c.if-out-addresses.true)

pub loop-i-init : goal.loop-i-init
loop-i-init g c = λ look gives. filling_none look c.args.addresses.now c.args.out.now

pub loop-i-preserved : goal.loop-i-preserved
loop-i-preserved g c = λ look gives.
    let xs = c.args.addresses.now in
    filling_more look xs c.args.out.now c.loop-i.out c.loop-i.some c.loop-i.i c.element-given.result c.if-out-addresses.false
    (c.loop-i.invariant look gives) c.loop-i-test.true
    (gives (get_or xs c.loop-i.i 0) c.element-given.result (omega (arith, c.type_inv.addresses c.loop-i.i)) c.element-given.ensures)

pub returns : goal.returns
returns g c = λ look gives.
    ap (λ a. outcome a c.loop-i.out) c.told.ensures
    ∙ filling_all look c.args.addresses.now c.args.out.now c.loop-i.out c.loop-i.some c.loop-i.i c.if-out-addresses.false
    (c.loop-i.invariant look gives) c.loop-i-test.false
