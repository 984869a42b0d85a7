use mathlib.Core.Path.{sym, ap, ◌∙◌}
use Prim.Native.Nat.{◌+◌, ◌-◌}
use native.Mathlib.Nat.{sub-zero}
use native.Mathlib.Omega.{arith}
use Rattle.routes.specs.Routes.{route_at}
use Rattle.table_rows.specs.Words.{five_words}
use Rattle.table_update.specs.Calls.{announced_words, built_from}
use Rattle.table_update.proofs.FillLoop.{built_turn, built_all}
use Rattle.table_update.proofs.fill.Goals as goal

pub loop-i-init : goal.loop-i-init
loop-i-init c = rw (sub-zero _)

pub loop-i-preserved : goal.loop-i-preserved
loop-i-preserved c = let l = c.loop-i in
    let d = c.args in
    let p = c.put_route in
    ap (built_from five_words 32 (route_at d.list.now) (d.k - (l.i + 1)) (l.i + 1)) (p.ensures ∙ ap (announced_words five_words 32 l.rows l.i) c.route_at.ensures)
    ∙ sym (built_turn five_words 32 (route_at d.list.now) l.rows d.k l.i (omega arith)) ∙ l.invariant

pub returns : goal.returns
returns c = let l = c.loop-i in
    let d = c.args in
    built_all five_words 32 (route_at d.list.now) l.rows d.k l.i (omega arith) ∙ l.invariant
