-- How many nodes are counted at most, and that the count of a list that is accepted is that of its image. Assumes nothing.
use mathlib.Core.Path.{◌≡◌, refl, sym, ap, ◌∙◌}
use mathlib.Core.Bool.{Bool, true, false, cond, ◌&&◌}
use mathlib.Core.Logic.{⊎_elim}
use mathlib.Core.List.{List}
use Prim.Native.Nat.{ℕ, zero, suc, ◌+◌, ◌-◌, ◌*◌, ◌/◌, ◌≤◌}
use native.Mathlib.Omega.{arith}
use native.Mathlib.Nat.{div-le_self, mul-le-mul, suc-mul}
use lib.Dec.{ltb, leb}
use borrow.Author.Tests.{le-leb, leb-true}
use Rattle.bits.specs.Prefix.{matches}
use Rattle.lists.proofs.Tests.{way, both}
use Rattle.routes.specs.Bounds.{most_routes}
use Rattle.routes.specs.Routes.{route_at, route_count}
use Rattle.routes.specs.declared.Route.{Route}
use Rattle.image_rules.specs.Lookup.{is_stride}
use Rattle.image_stretch.specs.Count.{count_at, count_below, sum_of, nodes_count}
use Rattle.image_count.specs.Counted.{counted_nodes, most_nodes}

-- a route counts for one node at a depth at most
by_tests_lem : (a b c : Bool) → cond a (cond b (cond c 0 1) 1) 0 ≤ 1
by_tests_lem true true true = omega arith
by_tests_lem true true false = omega arith
by_tests_lem true false c = omega arith
by_tests_lem false b c = omega arith

pub count_at_few : (w : ℕ) (R : ℕ → Route) (n l i : ℕ) → count_at w R n l i ≤ 1
unfolding count_at
count_at_few w R n l i = by_tests_lem (ltb l (R i).len) (ltb (i + 1) n) (matches w (R i).value l (R (i + 1)).value)

pub count_below_few : (w : ℕ) (R : ℕ → Route) (n s k l i : ℕ) → count_below w R n s k l i ≤ k
unfolding count_below
count_below_few w R n s zero l i = omega arith
count_below_few w R n s (suc k) l i = omega (arith, count_at_few w R n l i, count_below_few w R n s k (l + s) i)

sum_few : (f : ℕ → ℕ) (m k i : ℕ) → ((j : ℕ) → f j ≤ m) → sum_of f k i ≤ k * m
unfolding sum_of
sum_few f m zero i h = omega arith
sum_few f m (suc k) i h = omega (arith, h i, sum_few f m k (i + 1) h, suc-mul k m)

-- the nodes of the first n routes
pub nodes_few_lem : (w : ℕ) (R : ℕ → Route) (n s : ℕ) → n ≤ most_routes → nodes_count w R n s ≤ most_nodes w
nodes_few_lem w R n s h =
    let l : w / s - 1 ≤ w - 1 = omega (arith, div-le_self w s) in
    let a = sum_few (count_below w R n s (w / s - 1) s) (w / s - 1) n 0 (λ j. count_below_few w R n s (w / s - 1) s j) in
    omega (arith, a, mul-le-mul h l)

-- by the one test of the code
pub counted_by_lem : (w : ℕ) (list : List ℕ) (s : ℕ) (is : Bool) → is ≡ is_stride s → (b : Bool) → (is && leb (route_count list) most_routes) ≡ b
    → counted_nodes w list s ≡ cond b (nodes_count w (route_at list) (route_count list) s) 0
unfolding counted_nodes
counted_by_lem w list s is e b t =
    ap (λ (x : Bool). cond x (nodes_count w (route_at list) (route_count list) s) 0) (ap (λ (x : Bool). x && leb (route_count list) most_routes) (sym e) ∙ t)

-- at a stride, of no more routes than a list may have
pub counted_is : (w : ℕ) (list : List ℕ) (s : ℕ) → is_stride s ≡ true → route_count list ≤ most_routes
    → counted_nodes w list s ≡ nodes_count w (route_at list) (route_count list) s
counted_is w list s t h = counted_by_lem w list s true (sym t) true (le-leb (route_count list) most_routes h)

pub counted_few : (w : ℕ) (list : List ℕ) (s : ℕ) → counted_nodes w list s ≤ most_nodes w
counted_few w list s = ⊎_elim on off (way (is_stride s && leb (route_count list) most_routes))
  where
    on : (is_stride s && leb (route_count list) most_routes) ≡ true → counted_nodes w list s ≤ most_nodes w
    on t =
        let h = leb-true (route_count list) most_routes (both (is_stride s) (leb (route_count list) most_routes) t).1 in
        omega (arith, counted_by_lem w list s (is_stride s) refl true t, nodes_few_lem w (route_at list) (route_count list) s h)

    off : (is_stride s && leb (route_count list) most_routes) ≡ false → counted_nodes w list s ≤ most_nodes w
    off f = omega (arith, counted_by_lem w list s (is_stride s) refl false f)
