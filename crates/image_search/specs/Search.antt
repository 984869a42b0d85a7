-- Defines how the search for the stretches of a node's slots goes on from slot to slot: RULES, "The image". Where it begins and where it
-- ends for one slot, image_stretch says. Assumes nothing.
use Rattle.std.specs.Prelude.{cond, ℕ, ◌-◌, ◌/◌, eqb, ltb, leb}
use Rattle.bits.specs.Prefix.{span}
use Rattle.routes.specs.declared.Route.{Route}
use Rattle.image_stretch.specs.declared.Stretch.{Stretch}
use Rattle.image_stretch.specs.Stretches.{past, last_from, stands_before}
use Rattle.image_search.specs.declared.Sought.{Sought}
use Rattle.image_search.specs.declared.Search.{Search}

abbrev pub sought : ℕ → ℕ → Sought
sought route port = record { route = route; port = port }

-- one pass from lo on: where the routes that stand before v/l end, and the port of the last of them that matches v, else the one given
abbrev pub seek_from : ℕ → (ℕ → Route) → ℕ → ℕ → ℕ → ℕ → ℕ → Sought
seek_from w R v l port lo hi = record {
  route = past (stands_before R v l) (hi - lo) lo;
  port = last_from w R v port lo (past (stands_before R v l) (hi - lo) lo - lo);
}

-- of slots that begin at an address and are l bits deep, the one in which a later address lies
abbrev pub slot_of : ℕ → ℕ → ℕ → ℕ → ℕ
slot_of w address l a = (a - address) / span w l

-- of the m slots of a node, how many come before the one in which its next route lies: route `at`. All, if it has no such route
unfoldable pub clear_to : ℕ → (ℕ → Route) → ℕ → Stretch → ℕ → ℕ → ℕ → ℕ
clear_to w R m x at address l =
    cond (leb x.hi at) m
    (cond (ltb (R at).value address) 0
    (cond (leb m (slot_of w address l (R at).value)) m (slot_of w address l (R at).value)))

-- the search from route `at` on, where no route of the node before it matches a slot that is still to come: those before its own slot
-- are leaves with the node's port
abbrev pub search_from : ℕ → (ℕ → Route) → ℕ → Stretch → ℕ → ℕ → ℕ → Search
search_from w R m x at address l = record { short = at; route = at; clear = clear_to w R m x at address l }

-- the search after the slot with the stretch y. The routes in a slot match no later one; a route passed on the way to it is shorter than
-- the slots, and may match all that follow
abbrev pub search_after : ℕ → (ℕ → Route) → ℕ → Stretch → ℕ → Stretch → ℕ → ℕ → Search
search_after w R m x short y address l =
    cond (eqb y.lo short) (search_from w R m x y.hi address l) (record { short = short; route = y.hi; clear = 0 })
