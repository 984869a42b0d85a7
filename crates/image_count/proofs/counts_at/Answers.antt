use mathlib.Core.Path.{refl, sym, ◌∙◌}
use mathlib.Core.Bool.{true, false}
use borrow.Author.Tests.{lt-ltb, le-ltb}
use Rattle.routes.specs.Routes.{route_at}
use Rattle.image_count.proofs.CountLoop.{count_at_by, match_found, cond_not}
use Rattle.image_count.proofs.counts_at.Goals as goal

pub returns-then-route-depth : goal.returns-then-route-depth
returns-then-route-depth c = let a = c.args in
    sym (count_at_by 32 (route_at a.list.now) a.n a.depth a.i _ c.route_at-route.ensures false _ _ (le-ltb _ _ c.if-route-depth.true) refl refl)

pub returns-then-n-next : goal.returns-then-n-next
returns-then-n-next c = let a = c.args in
    sym (count_at_by 32 (route_at a.list.now) a.n a.depth a.i _ c.route_at-route.ensures true false _ (lt-ltb _ _ c.if-route-depth.false) (le-ltb _ _ c.if-n-next.true) refl)

pub returns : goal.returns
returns c = let a = c.args in
    let m = match_found 32 _ _ _ c.route_at.ensures _ _ _ c.new.ensures c.matches.ensures refl in
    cond_not c.matches.result 1 0 ∙ sym (count_at_by 32 (route_at a.list.now) a.n a.depth a.i _ c.route_at-route.ensures true true c.matches.result (lt-ltb _ _ c.if-route-depth.false) (lt-ltb _ _ c.if-n-next.false) m)
