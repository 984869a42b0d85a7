use mathlib.Core.Path.{◌≡◌, sym, ap, ◌∙◌}
use Prim.Native.Nat.{ℕ, ◌-◌}
use native.Mathlib.Omega.{arith}
use Rattle.routes.specs.Routes.{route_at}
use Rattle.image_stretch.specs.Stretches.{last_from}
use Rattle.image_stretch.proofs.FirstAndLast.{last_from_none, last_from_more}
use Rattle.image_search.proofs.SearchTests.{port_found}
use Rattle.image_search.proofs.last_match.Goals as goal

pub loop-i-init : goal.loop-i-init
loop-i-init c = let a = c.args in
    (omega arith, sym (last_from_none 32 (route_at a.list.now) a.address a.best a.lo (a.lo - a.lo) (omega arith)))

pub loop-i-preserved : goal.loop-i-preserved
loop-i-preserved c = let a = c.args in
    let l = c.loop-i in (
      omega arith,
      last_from_more 32 (route_at a.list.now) a.address a.best a.lo l.i l.port c.port_if-port.result l.auto.i l.invariant.1
          (port_found (route_at a.list.now) l.i _ c.route_at.ensures 32 a.address c.port_if-port.result l.port c.port_if-port.ensures),
    )

pub returns : goal.returns
returns c = let a = c.args in
    let l = c.loop-i in
    let e : l.i - a.lo ≡ a.hi - a.lo = omega arith in
    l.invariant.1 ∙ ap (λ (k : ℕ). last_from 32 (route_at a.list.now) a.address a.best a.lo k) e
