-- Defines a node of the image as a stretch of the sorted list, and its slots: RULES, "The image". In the order of the list the routes
-- that begin with a node's bits stand together, and the shorter ones that match it stand before them. Assumes nothing.
use Rattle.std.specs.Prelude.{Bool, cond, ◌&&◌, List, [], ◌∷◌, ℕ, zero, suc, ◌+◌, ◌-◌, ◌*◌, ◌%◌, ◌^◌, ◌/◌, eqb, ltb}
use Rattle.bits.specs.Prefix.{span, matches, first, precedes}
use Rattle.lists.specs.Numbered.{list_of}
use Rattle.routes.specs.Scan.{route_matches}
use Rattle.routes.specs.declared.Route.{Route}
use Rattle.image_rules.specs.Breadth.{Slot, leaf, non_leaf, levels}
use Rattle.image_stretch.specs.declared.Stretch.{Stretch}

abbrev pub stretch : ℕ → ℕ → ℕ → ℕ → Stretch
stretch lo hi depth best = record { lo = lo; hi = hi; depth = depth; best = best }

-- of k numbers from i on, the first where the test fails; the one after them if none does
unfoldable pub past : (ℕ → Bool) → ℕ → ℕ → ℕ
past test zero i = i
past test (suc k) i = cond (test i) (past test k (i + 1)) i

-- a port as half a word holds it; "1..4094" fits
abbrev pub half_word : ℕ
half_word = 65536

abbrev pub carried : Route → ℕ
carried r = r.port % half_word

-- the port of the last of k routes from lo on that matches the address; else the one given
unfoldable pub last_from : ℕ → (ℕ → Route) → ℕ → ℕ → ℕ → ℕ → ℕ
last_from w R a port lo zero = port
last_from w R a port lo (suc k) = cond (route_matches w a (R (lo + k))) (carried (R (lo + k))) (last_from w R a port lo k)

-- route i stands before the prefix v/l, and its value is one of the prefix's addresses
abbrev pub stands_before : (ℕ → Route) → ℕ → ℕ → ℕ → Bool
stands_before R v l i = precedes (R i).value (R i).len v l

abbrev pub under : ℕ → (ℕ → Route) → ℕ → ℕ → ℕ → Bool
under w R v l i = matches w v l (R i).value

-- where the routes that begin with the bits of v/l start, and where they end, within a stretch that has them all; the search for them
-- starts at a route before which none of them is
abbrev pub from_at : (ℕ → Route) → Stretch → ℕ → ℕ → ℕ → ℕ
from_at R x at v l = past (stands_before R v l) (x.hi - at) at

abbrev pub to_at : ℕ → (ℕ → Route) → Stretch → ℕ → ℕ → ℕ → ℕ
to_at w R x at v l = past (under w R v l) (x.hi - from_at R x at v l) (from_at R x at v l)

abbrev pub from_of : (ℕ → Route) → Stretch → ℕ → ℕ → ℕ
from_of R x v l = from_at R x x.lo v l

abbrev pub to_of : ℕ → (ℕ → Route) → Stretch → ℕ → ℕ → ℕ
to_of w R x v l = to_at w R x x.lo v l

-- the port that the slot inherits: from the routes of short..at, before which none of the node's matches it, and from those that the
-- search passes
abbrev pub inherited_at : ℕ → (ℕ → Route) → Stretch → ℕ → ℕ → ℕ → ℕ → ℕ
inherited_at w R x short at v l = last_from w R v (last_from w R v x.best short (at - short)) at (from_at R x at v l - at)

-- the stretch of the slot with the bits of v/l, with the port that it inherits: the search started at route `at`, and at the first of
-- the node's routes
unfoldable pub slot_stretch_at : ℕ → (ℕ → Route) → Stretch → ℕ → ℕ → ℕ → ℕ → Stretch
slot_stretch_at w R x short at v l =
    stretch (from_at R x at v l) (to_at w R x at v l) l (inherited_at w R x short at v l)

unfoldable pub slot_stretch : ℕ → (ℕ → Route) → Stretch → ℕ → ℕ → Stretch
slot_stretch w R x v l =
    stretch (from_of R x v l) (to_of w R x v l) l (last_from w R v x.best x.lo (from_of R x v l - x.lo))

-- from where on a route of the node may match a later slot, after the slot's stretch y: past y, unless a route shorter than the slots
-- was passed on the way to it
abbrev pub short_after : ℕ → Stretch → ℕ
short_after short y = cond (eqb y.lo short) y.hi short

-- "a route longer than d+s bits begins with the slot's d+s bits": if any route of its stretch is longer, the last one is
abbrev pub goes_on : (ℕ → Route) → Stretch → Bool
goes_on R y = ltb y.lo y.hi && ltb y.depth (R (y.hi - 1)).len

-- "else it is a leaf": its stretch then has the slot's own prefix, or nothing
abbrev pub leaf_port : (ℕ → Route) → Stretch → ℕ
leaf_port R y = cond (ltb y.lo y.hi) (carried (R y.lo)) y.best

abbrev pub slot_in : (ℕ → Route) → Stretch → Slot Stretch
slot_in R y = cond (goes_on R y) (non_leaf y) (leaf (leaf_port R y))

-- a node's first address: that of any route in it; only the root may have none
abbrev pub address_of : ℕ → (ℕ → Route) → Stretch → ℕ
address_of w R x = cond (ltb x.lo x.hi) (first w (R x.lo).value x.depth) 0

-- the first address of slot j
abbrev pub slot_address : ℕ → ℕ → ℕ → ℕ → ℕ
slot_address w address l j = (address + j * span w l) % 2 ^ w

-- of the node x, s bits deeper
abbrev pub slot_first : ℕ → (ℕ → Route) → ℕ → Stretch → ℕ → ℕ
slot_first w R s x j = slot_address w (address_of w R x) (x.depth + s) j

abbrev pub stretch_at : ℕ → (ℕ → Route) → ℕ → Stretch → ℕ → Stretch
stretch_at w R s x j = slot_stretch w R x (slot_first w R s x j) (x.depth + s)

abbrev pub stretch_slot : ℕ → (ℕ → Route) → ℕ → Stretch → ℕ → Slot Stretch
stretch_slot w R s x j = slot_in R (stretch_at w R s x j)

-- m slots of a node
abbrev pub stretch_slots : ℕ → (ℕ → Route) → ℕ → ℕ → Stretch → List (Slot Stretch)
stretch_slots w R s m x = list_of (stretch_slot w R s x) m 0

-- the root has all n routes, and inherits no port
abbrev pub root_of : ℕ → Stretch
root_of n = stretch 0 n 0 0

-- the nodes of a list by their stretches, breadth first
abbrev pub stretches : ℕ → (ℕ → Route) → ℕ → ℕ → List Stretch
stretches w R s n = levels (stretch_slots w R s (2 ^ s)) (w / s) (root_of n ∷ [])
