-- Defines how a route is put into its place among routes of a list, step by step: RULES, "The route list". Assumes nothing.
use Rattle.std.specs.Prelude.{Bool, true, cond, ◌&&◌, List, ℕ, zero, suc, ◌+◌, ◌-◌, leb, ltb}
use Rattle.bits.specs.Prefix.{precedes}
use Rattle.routes.specs.Routes.{route_at, route_count, store_route}
use Rattle.routes.specs.declared.Route.{Route}

abbrev pub route_before : Route → Route → Bool
route_before a b = precedes a.value a.len b.value b.len

-- q put into its place among the m routes from `at` on: from the last one down, each that does not stand before it moves up
unfoldable pub sunk : List ℕ → ℕ → ℕ → Route → List ℕ
sunk words at zero q = store_route words at q
sunk words at (suc m) q =
    cond (route_before (route_at words (at + m)) q) (store_route words (at + suc m) q)
    (sunk (store_route words (at + suc m) (route_at words (at + m))) at m q)

-- q put into its place among the m routes after the free place `at`: from the first one up, each that stands before it moves down
unfoldable pub risen : List ℕ → ℕ → ℕ → Route → List ℕ
risen words at zero q = store_route words at q
risen words at (suc m) q =
    cond (route_before (route_at words (at + 1)) q) (risen (store_route words at (route_at words (at + 1))) (at + 1) m q)
    (store_route words at q)

-- the routes from `at` up to `middle`, which ascend, all stand before q: there are none, or the last does
abbrev pub all_before : List ℕ → ℕ → ℕ → Route → Bool
all_before words at middle q = cond (leb middle at) true (route_before (route_at words (middle - 1)) q)

-- q put into its place among the routes from `at` up to `end`, of which the one at `middle` is free
unfoldable pub placed : List ℕ → ℕ → ℕ → ℕ → Route → List ℕ
placed words at middle end q =
    cond (all_before words at middle q) (risen words middle (end - (middle + 1)) q) (sunk words at (middle - at) q)

-- the same on any words; where the places are not in order, or not all lent, no word changes
unfoldable pub inserted : List ℕ → ℕ → ℕ → ℕ → Route → List ℕ
inserted words at middle end q = cond (leb at middle && ltb middle end && leb end (route_count words)) (placed words at middle end q) words
