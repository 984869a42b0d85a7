use mathlib.Core.Path.{◌≡◌, refl, sym, ap, ◌∙◌}
use mathlib.Core.Bool.{true, false}
use Prim.Native.Nat.{ℕ, ◌-◌}
use native.Mathlib.Omega.{arith}
use Rattle.routes.specs.Routes.{route_at}
use Rattle.image_stretch.specs.Stretches.{stands_before}
use Rattle.image_stretch.proofs.FirstAndLast.{past_more, past_here, past_all, last_from_none, last_from_more}
use Rattle.image_search.specs.Search.{sought}
use Rattle.image_search.proofs.Found.{seek_is}
use Rattle.image_search.proofs.SearchTests.{before_found, port_found}
use Rattle.image_search.proofs.seek.Goals as goal

pub loop-i-init : goal.loop-i-init
loop-i-init c = let a = c.args in
    (omega arith, refl, sym (last_from_none 32 (route_at a.list.now) a.place.value a.best a.lo (a.lo - a.lo) (omega arith)))

pub loop-i-preserved : goal.loop-i-preserved
loop-i-preserved c = let a = c.args in
    let l = c.loop-i in (
      omega arith,
      sym (past_more (stands_before (route_at a.list.now) a.place.value a.place.len) a.hi l.i (omega arith) (before_found (route_at a.list.now) l.i _ c.route_at-route.ensures a.place.value a.place.len _ _ true c.prefix.ensures c.precedes.ensures c.if-not-precedes.false)) ∙ l.invariant.1,
      last_from_more 32 (route_at a.list.now) a.place.value a.best a.lo l.i l.port c.port_if-port.result l.auto.i l.invariant.2
          (port_found (route_at a.list.now) l.i _ c.route_at-route.ensures 32 a.place.value c.port_if-port.result l.port c.port_if-port.ensures),
    )

pub returns-then-not-precedes : goal.returns-then-not-precedes
returns-then-not-precedes c = let a = c.args in
    let l = c.loop-i in
    seek_is 32 (route_at a.list.now) a.place.value a.place.len a.best a.lo a.hi l.i l.port
    (sym (past_here (stands_before (route_at a.list.now) a.place.value a.place.len) a.hi l.i (omega arith) (before_found (route_at a.list.now) l.i _ c.route_at-route.ensures a.place.value a.place.len _ _ false c.prefix.ensures c.precedes.ensures c.if-not-precedes.true)) ∙ l.invariant.1)
    l.invariant.2

pub returns : goal.returns
returns c = let a = c.args in
    let l = c.loop-i in
    let end : c.max.result ≡ l.i = omega (arith, c.max.ensures) in
    ap (λ (r : ℕ). sought r l.port) end ∙ seek_is 32 (route_at a.list.now) a.place.value a.place.len a.best a.lo a.hi l.i l.port
    (sym (past_all (stands_before (route_at a.list.now) a.place.value a.place.len) a.hi l.i (omega arith)) ∙ l.invariant.1)
    l.invariant.2
