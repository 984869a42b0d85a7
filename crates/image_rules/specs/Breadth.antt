-- Defines a tree by the slots of its nodes, its nodes breadth first, and their words and ports: RULES, "The image". A node is known
-- by any X: here by its bits, in a builder by what is still to be done. Assumes nothing.
use Rattle.std.specs.Prelude.{List, [], ◌∷◌, ◌++◌, ℕ, zero, suc, ◌+◌, ◌*◌, ◌^◌, length}
use Rattle.lists.specs.Flat.{flat}
use Rattle.image_rules.specs.Node.{node_words, offset}

-- a slot is a leaf with its port, or a non-leaf: a node further down
pub data Slot (X : Type 0) : Type 0 where
  leaf : ℕ → Slot X
  non_leaf : X → Slot X

module _ {X : Type 0} where
  abbrev pub slot_ports : Slot X → List ℕ
  slot_ports (leaf p) = p ∷ []
  slot_ports (non_leaf x) = []

  abbrev pub slot_children : Slot X → List X
  slot_children (leaf p) = []
  slot_children (non_leaf x) = x ∷ []

  -- "1 means leaf"
  abbrev pub leaf_bit : Slot X → ℕ
  leaf_bit (leaf p) = 1
  leaf_bit (non_leaf x) = 0

  -- "In the bitmap slot 0 is the highest of 2^s bits"
  abbrev pub bitmap : List (Slot X) → ℕ
  bitmap [] = 0
  bitmap (o ∷ os) = leaf_bit o * 2 ^ length os + bitmap os

  -- a node's non-leaf children, and its leaves' ports, left to right
  abbrev pub children : (X → List (Slot X)) → X → List X
  children slots x = flat slot_children (slots x)

  abbrev pub leaf_ports : (X → List (Slot X)) → X → List ℕ
  leaf_ports slots x = flat slot_ports (slots x)

  -- "breadth first, left to right": a level, then its children's; k levels in all
  abbrev pub levels : (X → List (Slot X)) → ℕ → List X → List X
  levels slots zero xs = []
  levels slots (suc k) xs = xs ++ levels slots k (flat (children slots) xs)

  -- the words of nodes one after the other: the first has the number own, and next is the next unused one, which its children take
  abbrev pub words : (X → List (Slot X)) → ℕ → ℕ → List X → List ℕ
  words slots own next [] = []
  words slots own next (x ∷ xs) =
      node_words (bitmap (slots x)) (offset next own) ++ words slots (own + 1) (next + length (children slots x)) xs

  -- nodes are "numbered from 1": the root has the number 1, and 2 is unused
  abbrev pub tree_words : (X → List (Slot X)) → List X → List ℕ
  tree_words slots xs = words slots 1 2 xs

  -- "Ports stand in a lent list of 16-bit numbers, by node, then by slot."
  abbrev pub tree_ports : (X → List (Slot X)) → List X → List ℕ
  tree_ports slots xs = flat (leaf_ports slots) xs
