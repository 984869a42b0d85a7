-- Defines a node's first child, and the leaves and children of the nodes before it, by the bits of their slots, and states that the offset
-- and the leaf base of a built node say just these, so that a lookup refuses no such node: RULES, "Nodes". Assumes nothing.
use Rattle.std.specs.Prelude.{◌≡◌, true, List, ℕ, zero, suc, ◌+◌, ◌-◌, ◌/◌, ◌^◌, ◌<◌}
use Rattle.bits.specs.Bitmap.{slot_bit, slots_with}
use Rattle.trie.specs.Routes.{Route}
use Rattle.image_rules.specs.Node.{is_node, bitmap_of, offset_of, next_of, base_of}
use Rattle.image_rules.specs.Image.{slot_bits, image_nodes, Imaged, path_of}
use Rattle.image_rules.specs.Lookup.{Strided}
use Rattle.image_rules.specs.NodesRead.{Sound}

-- "There is a node for the root, always, and one for each non-leaf slot": no two nodes have the same bits
abbrev pub NodesDistinct : Type 0
NodesDistinct =
    (w s : ℕ) (rs : List Route) (a b : ℕ) → Strided w s → Imaged w rs
    → is_node (image_nodes s (w / s) rs) a ≡ true → is_node (image_nodes s (w / s) rs) b ≡ true
    → path_of s (w / s) rs a ≡ path_of s (w / s) rs b → a ≡ b

-- the slots of nodes 1 .. a with bit b, node by node: their leaves for 1, their children for 0
abbrev pub slots_up_to : ℕ → ℕ → List ℕ → ℕ → ℕ
slots_up_to b s nodes zero = 0
slots_up_to b s nodes (suc a) = slots_up_to b s nodes a + slots_with (2 ^ s) (bitmap_of nodes (suc a)) b (2 ^ s)

abbrev pub leaves_up_to : ℕ → List ℕ → ℕ → ℕ
leaves_up_to = slots_up_to 1

abbrev pub children_up_to : ℕ → List ℕ → ℕ → ℕ
children_up_to = slots_up_to 0

-- "the next unused node number": the root's and those of the children of all nodes before are used
abbrev pub NextRule : Type 0
NextRule =
    (s k : ℕ) (rs : List Route) (a : ℕ) → is_node (image_nodes s k rs) (suc a) ≡ true
    → next_of (image_nodes s k rs) (suc a) ≡ 2 + children_up_to s (image_nodes s k rs) a

-- slot j of node a is a non-leaf, and no slot before it is
pub record FirstNonLeaf (s : ℕ) (nodes : List ℕ) (a j : ℕ) : Type 0 where
  pub in_node : j < 2 ^ s
  pub non_leaf_lem : slot_bit (2 ^ s) (bitmap_of nodes a) j ≡ 0
  pub leaves_before : (i : ℕ) → i < j → slot_bit (2 ^ s) (bitmap_of nodes a) i ≡ 1

-- where node a has a child, that number is the first one's, c: the number of the node with the first non-leaf's bits
abbrev pub OffsetFirst : Type 0
OffsetFirst =
    (w s : ℕ) (rs : List Route) (a j c : ℕ) → Strided w s → Imaged w rs
    → is_node (image_nodes s (w / s) rs) a ≡ true → FirstNonLeaf s (image_nodes s (w / s) rs) a j
    → is_node (image_nodes s (w / s) rs) c ≡ true → path_of s (w / s) rs c ≡ slot_bits s (path_of s (w / s) rs a) j
    → (a < c) × (offset_of (image_nodes s (w / s) rs) a ≡ c - a)

-- "how many leaves all nodes before it have together"
abbrev pub LeafBaseRule : Type 0
LeafBaseRule =
    (s k : ℕ) (rs : List Route) (a : ℕ) → is_node (image_nodes s k rs) (suc a) ≡ true
    → base_of (2 ^ s) (image_nodes s k rs) (suc a) ≡ leaves_up_to s (image_nodes s k rs) a

-- no node of an image is one that a lookup refuses
abbrev pub NodesSound : Type 0
NodesSound = (s k : ℕ) (rs : List Route) (a : ℕ) → is_node (image_nodes s k rs) a ≡ true → Sound s (image_nodes s k rs) a
