use borrow.Author.Tests.{lt-ltb, le-ltb}
use native.Mathlib.Omega.{arith}
use lib.ListN.{length-set}
use Rattle.routes.specs.Routes.{route_count, store_route}
use Rattle.routes.proofs.store_route.Goals as goal

pub bounds-list-at-then-i-list : goal.bounds-list-at-then-i-list
bounds-list-at-then-i-list c = simp length-set (omega arith)

pub bounds-list-at-then-i-list-2 : goal.bounds-list-at-then-i-list-2
bounds-list-at-then-i-list-2 c = simp length-set (omega arith)

pub returns-then-i-list : goal.returns-then-i-list
unfolding store_route
returns-then-i-list c = let d = c.args in rw (lt-ltb d.i (route_count d.list.now) (omega arith))

pub returns-else-i-list : goal.returns-else-i-list
unfolding store_route
returns-else-i-list c = let d = c.args in rw (le-ltb d.i (route_count d.list.now) (omega arith))
