-- Defines a list of routes in which each stands before all that follow: RULES, "Addresses and prefixes".
-- Assumes nothing.
use Rattle.std.specs.Prelude.{◌≡◌, true}
use mathlib.Core.List.{List, [], ◌∷◌, Memᴰ}
use Rattle.bits.specs.Prefix.{precedes}
use Rattle.routes.specs.declared.Route.{Route}

-- a stands before b in a list
abbrev pub Before : Route → Route → Type 0
Before a b = precedes a.value a.len b.value b.len ≡ true

abbrev pub Ascending : List Route → Type 0
Ascending [] = Unit {0}
Ascending (r ∷ rs) = ((x : Route) → Memᴰ x rs → Before r x) × Ascending rs
