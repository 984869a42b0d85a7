use mathlib.Core.Path.{◌≡◌, sym, ap, ◌∙◌}
use native.Mathlib.Omega.{arith}
use Rattle.count_rules.specs.Tally.{ports}
use Rattle.count_update.proofs.Counts.{same_below, same_first, same_next, differ_here}
use Rattle.count_update.proofs.counts_differ.Goals as goal

pub loop-port-init : goal.loop-port-init
loop-port-init c = same_first c.args.counts.now c.args.fresh.now

pub returns-then-counts-port : goal.returns-then-counts-port
returns-then-counts-port c = let a = c.args in
    sym (differ_here a.counts.now a.fresh.now c.loop-port.port c.loop-port-test.true c.if-counts-port.true)

pub loop-port-preserved : goal.loop-port-preserved
loop-port-preserved c = let a = c.args in
    let l = c.loop-port in
    same_next a.counts.now a.fresh.now l.port l.invariant c.if-counts-port.false

pub returns : goal.returns
returns c = let a = c.args in
    let l = c.loop-port in
    let e : l.port ≡ ports = omega arith in
    sym (ap (same_below a.counts.now a.fresh.now) (sym e) ∙ l.invariant)
