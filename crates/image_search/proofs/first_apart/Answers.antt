use mathlib.Core.Path.{◌≡◌, refl, sym, ◌∙◌}
use mathlib.Core.Bool.{true, false}
use native.Mathlib.Omega.{arith}
use Rattle.routes.specs.Routes.{route_at}
use Rattle.image_stretch.specs.Stretches.{under}
use Rattle.image_stretch.proofs.FirstAndLast.{past_more, past_here, past_all}
use Rattle.image_search.proofs.SearchTests.{under_found}
use Rattle.image_search.proofs.first_apart.Goals as goal

pub loop-i-init : goal.loop-i-init
loop-i-init c = (omega arith, refl)

pub loop-i-preserved : goal.loop-i-preserved
loop-i-preserved c = let a = c.args in
    let l = c.loop-i in
    (omega arith, sym (past_more (under 32 (route_at a.list.now) a.place.value a.place.len) a.hi l.i (omega arith) (under_found (route_at a.list.now) l.i _ c.route_at.ensures 32 a.place.value a.place.len _ true c.matches.ensures c.if-not-matches.false)) ∙ l.invariant.1)

pub returns-then-not-matches : goal.returns-then-not-matches
returns-then-not-matches c = let a = c.args in
    let l = c.loop-i in
    sym (past_here (under 32 (route_at a.list.now) a.place.value a.place.len) a.hi l.i (omega arith) (under_found (route_at a.list.now) l.i _ c.route_at.ensures 32 a.place.value a.place.len _ false c.matches.ensures c.if-not-matches.true)) ∙ l.invariant.1

pub returns : goal.returns
returns c = let a = c.args in
    let l = c.loop-i in
    let end : c.max.result ≡ l.i = omega (arith, c.max.ensures) in
    end ∙ sym (past_all (under 32 (route_at a.list.now) a.place.value a.place.len) a.hi l.i (omega arith)) ∙ l.invariant.1
