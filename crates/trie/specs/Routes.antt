-- Defines a route, a set of routes and how calls change it: RULES, "Addresses and prefixes". Assumes nothing.
use Rattle.std.specs.Prelude.{◌≡◌, Bool, cond, ℕ, ◌<◌}
use mathlib.Core.List.{List, [], ◌∷◌, Memᴰ}
use Rattle.bits.specs.Bits.{Bits, same}

-- "A route is a prefix and a port": the prefix by its bits
pub record Route : Type 0 where
  pub prefix : Bits
  pub port : ℕ

-- a set of routes: the port of each prefix. "Port 0 means no route and is never a route's port."
abbrev pub Routes : Type 0
Routes = Bits → ℕ

abbrev pub no_routes : Routes
no_routes q = 0

-- the set with the port of q made p: an announcement, and at p = 0 a withdrawal
abbrev pub upd : Routes → Bits → ℕ → Routes
upd S q p x = cond (same x q) p (S x)

-- the routes that go on with the bit b, without that bit
abbrev pub side : Bool → Routes → Routes
side b S q = S (b ∷ q)

-- the set after the routes of a list are announced, one after the other
unfoldable pub held_from : Routes → List Route → Routes
held_from S [] = S
held_from S (r ∷ rs) = held_from (upd S r.prefix r.port) rs

abbrev pub held : List Route → Routes
held rs = held_from no_routes rs

-- the prefixes of a list are pairwise different
abbrev pub Distinct : List Route → Type 0
Distinct [] = Unit {0}
Distinct (r ∷ rs) = ((x : Route) → Memᴰ x rs → x.prefix ≡ r.prefix → ⊥) × Distinct rs

-- every route has a port
abbrev pub Ported : List Route → Type 0
Ported rs = (x : Route) → Memᴰ x rs → 0 < x.port
