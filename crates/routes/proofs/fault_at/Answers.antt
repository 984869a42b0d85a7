use mathlib.Core.Path.{refl, sym, ◌∙◌}
use Rattle.std.proofs.lemmas.Result.{err_from_is_err_and}
use Rattle.refusals.proofs.Numbers.{number_ne0}
use mathlib.Core.Bool.{true, false}
use Rattle.routes.specs.Routes.{route_at}
use Rattle.routes.proofs.Faults.{fault_own, fault_above, above_first, above_later}
use Rattle.routes.proofs.fault_at.Goals as goal

pub returns-in_err-route_fault : goal.returns-in_err-route_fault
returns-in_err-route_fault c = let a = c.args in
    let p = err_from_is_err_and c.from_residual.result c.from_residual.ensures.1 in
    rw (p.1, p.2) (sym (fault_own 32 (route_at a.list.now) a.i _ c.route_at-route.ensures _ c.in_err-route_fault.ensures (number_ne0 _)))

pub returns-then-i-eq0 : goal.returns-then-i-eq0
returns-then-i-eq0 c = let a = c.args in
    let R = route_at a.list.now in
    sym (fault_above 32 R a.i _ c.route_at-route.ensures _ c.in_ok-route_fault.ensures true (above_first R a.i c.if-i-eq0.true) refl)

pub returns-then-precedes : goal.returns-then-precedes
returns-then-precedes c = let a = c.args in
    let R = route_at a.list.now in
    let up = above_later R a.i _ _ _ _ _ c.if-i-eq0.false c.route_at-before.ensures c.route_at-route.ensures c.prefix.ensures c.prefix-2.ensures c.precedes.ensures in
    sym (fault_above 32 R a.i _ c.route_at-route.ensures _ c.in_ok-route_fault.ensures true (up ∙ c.if-precedes.true) refl)

pub returns-else-precedes : goal.returns-else-precedes
returns-else-precedes c = let a = c.args in
    let R = route_at a.list.now in
    let up = above_later R a.i _ _ _ _ _ c.if-i-eq0.false c.route_at-before.ensures c.route_at-route.ensures c.prefix.ensures c.prefix-2.ensures c.precedes.ensures in
    sym (fault_above 32 R a.i _ c.route_at-route.ensures _ c.in_ok-route_fault.ensures false (up ∙ c.if-precedes.false) refl)
