-- States what this layer is there for: RULES, "The image". Proofs are in proofs/. Assumes nothing.
use Rattle.std.specs.Prelude.{◌≡◌, ◌↔◌, true, List, [], ◌∷◌, ◌++◌, ℕ, ◌+◌, ◌-◌, ◌*◌, ◌/◌, ◌^◌, ◌≤◌, ◌<◌, length, get_or}
use Rattle.promise.specs.Over.{over}
use Rattle.bits.specs.Bits.{Bits, bits}
use Rattle.bits.specs.Bitmap.{slot_bit}
use Rattle.trie.specs.Routes.{Route, held}
use Rattle.trie.specs.Scan.{scan}
use Rattle.routes.specs.Bounds.{last_port}
use Rattle.routes.specs.Routes.{ValidList}
use Rattle.routes.specs.Scan.{scan_of}
use Rattle.routes.specs.declared.Route.{Route as ListRoute}
use Rattle.lists.specs.Flat.{flat}
use Rattle.image_rules.specs.Node.{node_size, is_node, bitmap_of}
use Rattle.image_rules.specs.Breadth.{children}
use Rattle.image_rules.specs.Image.{Longer, slot_bits, slots, image_paths, image_nodes, image_ports, passed, routes_of, Imaged, path_of}
use Rattle.image_rules.specs.Lookup.{leaf_of, child_at, lookup_words, Strided}
use Rattle.refusals.specs.Refusals.{found}

-- On the image of a list every address gets the plain scan's port, whatever else is lent after the image; and the nodes read are
-- "one more than the non-leaf slots passed".
abbrev pub LookupIsScan : Type 0
LookupIsScan =
    (w s : ℕ) (rs : List Route) (nodes ports : List ℕ) (a : ℕ) → Strided w s → Imaged w rs
    → lookup_words w s (over (image_nodes s (w / s) rs) nodes) (over (image_ports s (w / s) rs) ports) a
    ≡ found (scan (held rs) (bits w a)) (passed rs s (w / s) [] (bits w a) + 1)

-- a valid list has an image
abbrev pub ValidImaged : Type 0
ValidImaged = (w : ℕ) (R : ℕ → ListRoute) (n : ℕ) → ValidList w R n → Imaged w (routes_of w R n)

-- so a lookup on the image of a valid list gives the plain scan of that list
abbrev pub LookupIsListScan : Type 0
LookupIsListScan =
    (w s : ℕ) (R : ℕ → ListRoute) (n : ℕ) (nodes ports : List ℕ) (a : ℕ) → Strided w s → ValidList w R n → a < 2 ^ w
    → lookup_words w s (over (image_nodes s (w / s) (routes_of w R n)) nodes) (over (image_ports s (w / s) (routes_of w R n)) ports) a
    ≡ found (scan_of w R n a) (passed (routes_of w R n) s (w / s) [] (bits w a) + 1)

-- "At most 32/s nodes are read": on any words
abbrev pub ReadsLe : Type 0
ReadsLe = (w s : ℕ) (nodes ports : List ℕ) (a : ℕ) → (lookup_words w s nodes ports a).reads ≤ w / s

-- "a port above 4094" is never answered: on any words
abbrev pub PortsLe : Type 0
PortsLe = (w s : ℕ) (nodes ports : List ℕ) (a : ℕ) → (lookup_words w s nodes ports a).port ≤ last_port

-- "numbered from 1 breadth first, left to right": after the root stand the children of node 1, of node 2, and so on
abbrev pub Numbered : Type 0
Numbered =
    (w s : ℕ) (rs : List Route) → Strided w s → Imaged w rs
    → image_paths s (w / s) rs ≡ [] ∷ flat (children (slots rs s)) (image_paths s (w / s) rs)

-- how many words and ports an image has: every slot holds a port or a child, and every node but the root is a child
abbrev pub PortsCount : Type 0
PortsCount =
    (w s : ℕ) (rs : List Route) → Strided w s → Imaged w rs
    → (length (image_nodes s (w / s) rs) ≡ length (image_paths s (w / s) rs) * node_size)
    × (length (image_ports s (w / s) rs) ≡ length (image_paths s (w / s) rs) * (2 ^ s - 1) + 1)

-- "A slot is a non-leaf if a route longer than d+s bits begins with the slot's d+s bits": in the words, by its bit
abbrev pub SlotRule : Type 0
SlotRule =
    (s k : ℕ) (rs : List Route) (a j : ℕ) → is_node (image_nodes s k rs) a ≡ true → j < 2 ^ s
    → (slot_bit (2 ^ s) (bitmap_of (image_nodes s k rs) a) j ≡ 0) ↔ Longer rs (slot_bits s (path_of s k rs a) j)

-- "else it is a leaf, with the port that the plain scan gives its addresses": at its number among the ports
abbrev pub LeafRule : Type 0
LeafRule =
    (w s k : ℕ) (rs : List Route) (a j : ℕ) (rest : Bits) → Imaged w rs → is_node (image_nodes s k rs) a ≡ true → j < 2 ^ s
    → slot_bit (2 ^ s) (bitmap_of (image_nodes s k rs) a) j ≡ 1
    → get_or (image_ports s k rs) (leaf_of (2 ^ s) (image_nodes s k rs) a j) 0 ≡ scan (held rs) (slot_bits s (path_of s k rs a) j ++ rest)

-- a non-leaf's number is that of the node with its bits
abbrev pub ChildRule : Type 0
ChildRule =
    (w s : ℕ) (rs : List Route) (a j : ℕ) → Strided w s → Imaged w rs → is_node (image_nodes s (w / s) rs) a ≡ true → j < 2 ^ s
    → slot_bit (2 ^ s) (bitmap_of (image_nodes s (w / s) rs) a) j ≡ 0
    → (is_node (image_nodes s (w / s) rs) (child_at (2 ^ s) (image_nodes s (w / s) rs) a j) ≡ true)
    × (path_of s (w / s) rs (child_at (2 ^ s) (image_nodes s (w / s) rs) a j) ≡ slot_bits s (path_of s (w / s) rs a) j)
