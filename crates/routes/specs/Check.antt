-- Defines the checks of a route list: RULES, "Order of the checks". Assumes nothing.
use Rattle.std.specs.Prelude.{◌≡◌, Bool, cond, ◌&&◌, ◌||◌, List, ℕ, zero, suc, ◌+◌, ◌-◌, ◌%◌, ◌<◌, eqb, leb, ltb, length}
use Rattle.bits.specs.Prefix.{clear, precedes}
use Rattle.refusals.specs.Refusals.{wrong_size, long_prefix, spare_bits, wrong_port, not_above, too_many_routes, refused, accepted, unless}
use Rattle.routes.specs.Bounds.{most_routes, last_port}
use Rattle.routes.specs.Routes.{route_at, route_count}
use Rattle.routes.specs.declared.Route.{Route}
use Rattle.refusals.specs.declared.Answer.{Answer}

abbrev pub is_port : ℕ → Bool
is_port port = ltb 0 port && leb port last_port

-- "4, 5" on a prefix, then what follows
abbrev pub prefix_fault : ℕ → ℕ → ℕ → ℕ → ℕ
prefix_fault w value len rest = unless (leb len w) long_prefix (unless (clear w value len) spare_bits rest)

-- "4, 5, 6" on a route by itself, then what follows
abbrev pub route_fault : ℕ → Route → ℕ → ℕ
route_fault w r rest = prefix_fault w r.value r.len (unless (is_port r.port) wrong_port rest)

-- "not above the route before"
abbrev pub above : (ℕ → Route) → ℕ → Bool
above R i = eqb i 0 || precedes (R (i - 1)).value (R (i - 1)).len (R i).value (R i).len

-- "per route 4, 5, 6, 7": the first fault of route i, 0 if it has none
unfoldable pub fault_at : ℕ → (ℕ → Route) → ℕ → ℕ
fault_at w R i = route_fault w (R i) (unless (above R i) not_above 0)

-- of k places from i on, the first with a fault
unfoldable pub first_fault : (ℕ → ℕ) → ℕ → ℕ → Answer
first_fault fault zero i = accepted 0
first_fault fault (suc k) i = cond (eqb (fault i) 0) (first_fault fault k (i + 1)) (refused (fault i) i)

-- fault m at place i of n, and none before it
pub record FirstFault (fault : ℕ → ℕ) (n m i : ℕ) : Type 0 where
  pub within : i < n
  pub here : fault i ≡ m
  pub wrong : m ≡ 0 → ⊥
  pub none : (j : ℕ) → j < i → fault j ≡ 0

-- "8; per route 4, 5, 6, 7"
unfoldable pub routes_check : ℕ → (ℕ → Route) → ℕ → Answer
routes_check w R n = cond (leb n most_routes) (first_fault (fault_at w R) n 0) (refused too_many_routes 0)

-- "3" on the words of a list, and then its routes
unfoldable pub list_check : ℕ → List ℕ → Answer
list_check w words = cond (eqb (length words % 3) 0) (routes_check w (route_at words) (route_count words)) (refused wrong_size 0)
