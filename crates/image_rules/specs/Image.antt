-- Defines the image of a list of routes: RULES, "The image". A node is known by its bits: those of the addresses that come to it.
-- Assumes nothing.
use Rattle.std.specs.Prelude.{◌≡◌, Bool, true, false, cond, ◌&&◌, ◌||◌, ℕ, zero, suc, ◌+◌, ◌^◌, ◌≤◌, ◌<◌, ◌-◌, ltb, length, take, drop, get_or}
use mathlib.Core.List.{List, [], ◌∷◌, ◌++◌, map, Memᴰ}
use Rattle.bits.specs.Bits.{Bits, bits, begins}
use Rattle.trie.specs.Routes.{Route, Distinct, Ported}
use Rattle.trie.specs.Scan.{scan_list}
use Rattle.routes.specs.Bounds.{last_port}
use Rattle.routes.specs.Routes.{bit_route}
use Rattle.lists.specs.Numbered.{list_of}
use Rattle.routes.specs.declared.Route.{Route as ListRoute}
use Rattle.image_rules.specs.Breadth.{Slot, leaf, non_leaf, levels, tree_words, tree_ports}

-- "a route longer than d+s bits begins with the slot's d+s bits": of one route, as a test
abbrev pub longer : Bits → Route → Bool
longer q r = begins q r.prefix && ltb (length q) (length r.prefix)

-- of a list, as a statement, and below as a test
abbrev pub Longer : List Route → Bits → Type 0
Longer rs q = (r : Route) × Memᴰ r rs × (begins q r.prefix ≡ true) × (length q < length r.prefix)

unfoldable pub some_longer : List Route → Bits → Bool
some_longer [] q = false
some_longer (r ∷ rs) q = longer q r || some_longer rs q

-- "A slot is a non-leaf if a route longer than d+s bits begins with the slot's d+s bits; else it is a leaf, with the port that the
-- plain scan gives its addresses." No route tells a leaf's addresses apart, so its bits stand for them all.
abbrev pub slot_of : List Route → Bits → Slot Bits
slot_of rs q = cond (some_longer rs q) (non_leaf q) (leaf (scan_list rs q))

-- "A node at depth d has 2^s slots": slot j's bits are the node's, and then those of j
abbrev pub slot_bits : ℕ → Bits → ℕ → Bits
slot_bits s q j = q ++ bits s j

abbrev pub slots : List Route → ℕ → Bits → List (Slot Bits)
slots rs s q = list_of (λ j. slot_of rs (slot_bits s q j)) (2 ^ s) 0

-- "Only nodes that are no leaf are stored, numbered from 1 breadth first, left to right. The root is always stored."
abbrev pub image_paths : ℕ → ℕ → List Route → List Bits
image_paths s k rs = levels (slots rs s) k ([] ∷ [])

abbrev pub image_nodes : ℕ → ℕ → List Route → List ℕ
image_nodes s k rs = tree_words (slots rs s) (image_paths s k rs)

abbrev pub image_ports : ℕ → ℕ → List Route → List ℕ
image_ports s k rs = tree_ports (slots rs s) (image_paths s k rs)

-- the non-leaf slots that an address passes on its way down from the node with the bits q; a is the rest of its bits
unfoldable pub passed : List Route → ℕ → ℕ → Bits → Bits → ℕ
passed rs s zero q a = 0
passed rs s (suc k) q a = cond (some_longer rs (q ++ take s a)) (passed rs s k (q ++ take s a) (drop s a) + 1) 0

-- the first n routes of a list, by their bits
abbrev pub routes_of : ℕ → (ℕ → ListRoute) → ℕ → List Route
routes_of w R n = map (bit_route w) (list_of R n 0)

-- what a list must be: different prefixes of at most w bits, and ports "1..4094"
pub record Imaged (w : ℕ) (rs : List Route) : Type 0 where
  pub distinct : Distinct rs
  pub ported : Ported rs
  pub short : (r : Route) → Memᴰ r rs → length r.prefix ≤ w
  pub low : (r : Route) → Memᴰ r rs → r.port ≤ last_port

-- the bits of node a
abbrev pub path_of : ℕ → ℕ → List Route → ℕ → Bits
path_of s k rs a = get_or (image_paths s k rs) (a - 1) []
