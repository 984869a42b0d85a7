-- Defines which nodes a lookup on any words reads and what number it answers, node by node along the address and apart from the walk, and
-- states that the lookup does so and that no other answer does: RULES, "Lookup in an image", "Refusals". Assumes nothing.
use Rattle.std.specs.Prelude.{◌≡◌, ◌⊎◌, true, false, List, ℕ, zero, suc, ◌+◌, ◌-◌, ◌*◌, ◌/◌, ◌^◌, ◌≤◌, ◌<◌, length, get_or, take, drop}
use Rattle.bits.specs.Bits.{bits}
use Rattle.bits.specs.Bitmap.{slot_bit}
use Rattle.refusals.specs.Refusals.{not_in_order, wrong_stride}
use Rattle.routes.specs.Bounds.{last_port}
use Rattle.image_rules.specs.Node.{is_node, bitmap_of, offset_of}
use Rattle.image_rules.specs.Lookup.{address_slot, leaf_of, child_at, lookup_words, Strided}

-- "Let j be the slot that the address bits d to d+s-1 name": on level i, which is at depth d = s * i
abbrev pub slot_on : ℕ → ℕ → ℕ → ℕ → ℕ
slot_on w s addr i = address_slot s addr (w / s - 1 - i)

-- "The lookup begins at node 1", and goes on at the node that the slot of the address names
abbrev pub node_on : ℕ → ℕ → List ℕ → ℕ → ℕ → ℕ
node_on w s nodes addr zero = 1
node_on w s nodes addr (suc i) = child_at (2 ^ s) nodes (node_on w s nodes addr i) (slot_on w s addr i)

-- "Where a is 0, or above the number of whole nodes lent, … No node is counted for it"; else it is read, "which counts"
abbrev pub Read : List ℕ → ℕ → Type 0
Read nodes a = is_node nodes a ≡ true

-- a bitmap of 2^s bits, a next number of 2 or more, and before the node no fewer slots than children, so that no leaf base is negative
pub record Sound (s : ℕ) (nodes : List ℕ) (a : ℕ) : Type 0 where
  pub small : bitmap_of nodes a < 2 ^ (2 ^ s)
  pub next : 2 ≤ a + offset_of nodes a
  pub based : a + offset_of nodes a ≤ 2 ^ s * (a - 1) + 2

-- "Where its bitmap is 2^(2^s) or more", or "where a + offset is below 2 or the leaf base would be negative"
abbrev pub Unsound : ℕ → List ℕ → ℕ → Type 0
Unsound s nodes a =
    (2 ^ (2 ^ s) ≤ bitmap_of nodes a) ⊎ ((a + offset_of nodes a < 2) ⊎ (2 ^ s * (a - 1) + 2 < a + offset_of nodes a))

-- a sound node that is read, with a non-leaf in slot j, so that the lookup goes on from it
pub record GoesOn (s : ℕ) (nodes : List ℕ) (a j : ℕ) : Type 0 where
  pub is_read : Read nodes a
  pub sound : Sound s nodes a
  pub non_leaf_lem : slot_bit (2 ^ s) (bitmap_of nodes a) j ≡ 0

-- "Where that is past the ports lent, or the port there is above 4094, the call is refused 11." The number at leaf l
abbrev pub LeafNumber : List ℕ → ℕ → ℕ → Type 0
LeafNumber ports l m =
    ((l < length ports) × (get_or ports l 0 ≤ last_port) × (m ≡ 0))
    ⊎ (((length ports ≤ l) ⊎ (last_port < get_or ports l 0)) × (m ≡ not_in_order))

-- How a lookup of that many levels ends that went on from i of them and comes to node a and its slot j: k nodes read, number m
module _ (s : ℕ) (nodes ports : List ℕ) (levels i a j k m : ℕ) where
  -- "If slot j is a leaf": the leaf decides
  pub record AtLeaf : Type 0 where
    pub level : i < levels
    pub is_read : Read nodes a
    pub sound : Sound s nodes a
    pub is_leaf : slot_bit (2 ^ s) (bitmap_of nodes a) j ≡ 1
    pub reads : k ≡ i + 1
    pub number : LeafNumber ports (leaf_of (2 ^ s) nodes a j) m

  -- a node that is not sound is refused 11, leaf or not, and counts
  pub record AtUnsound : Type 0 where
    pub level : i < levels
    pub is_read : Read nodes a
    pub unsound : Unsound s nodes a
    pub reads : k ≡ i + 1
    pub number : m ≡ not_in_order

  -- what is no node is refused 11, and "no node is counted for it"
  pub record AtNoNode : Type 0 where
    pub level : i < levels
    pub no_node : is_node nodes a ≡ false
    pub reads : k ≡ i
    pub number : m ≡ not_in_order

  -- "If it is a non-leaf, and d is 32-s, the call is refused 11": the lookup went on from the node of every level, the last one too
  pub record AtLastDepth : Type 0 where
    pub no_level : i ≡ levels
    pub reads : k ≡ i
    pub number : m ≡ not_in_order

  abbrev pub EndsAt : Type 0
  EndsAt = AtLeaf ⊎ (AtUnsound ⊎ (AtNoNode ⊎ AtLastDepth))

-- a lookup that reads k nodes and answers number m: on some levels it goes on, and on the next it ends
pub record NodesRead (w s : ℕ) (nodes ports : List ℕ) (addr k m : ℕ) : Type 0 where
  pub levels_passed : ℕ
  pub went_on : (i : ℕ) → i < levels_passed → GoesOn s nodes (node_on w s nodes addr i) (slot_on w s addr i)
  pub ends :
      EndsAt s nodes ports (w / s) levels_passed (node_on w s nodes addr levels_passed) (slot_on w s addr levels_passed) k m

-- "1, 2 or 4"
abbrev pub IsStride : ℕ → Type 0
IsStride s = (s ≡ 1) ⊎ ((s ≡ 2) ⊎ (s ≡ 4))

-- "12, then 11": with a wrong stride no node is read
pub record ReadsAndNumber (w s : ℕ) (nodes ports : List ℕ) (addr k m : ℕ) : Type 0 where
  pub wrong_stride_lem : (IsStride s → ⊥) → (k ≡ 0) × (m ≡ wrong_stride)
  pub stride : IsStride s → NodesRead w s nodes ports addr k m

-- so does the lookup, on any words and with any stride
abbrev pub LookupReads : Type 0
LookupReads =
    (w s : ℕ) (nodes ports : List ℕ) (addr : ℕ)
    → ReadsAndNumber w s nodes ports addr (lookup_words w s nodes ports addr).reads (lookup_words w s nodes ports addr).number

-- and no other reads and number
abbrev pub ReadsUnique : Type 0
ReadsUnique =
    (w s : ℕ) (nodes ports : List ℕ) (addr k m k' m' : ℕ)
    → ReadsAndNumber w s nodes ports addr k m → ReadsAndNumber w s nodes ports addr k' m' → (k ≡ k') × (m ≡ m')

-- a level's slot is named by the address's own bits
abbrev pub SlotOnIs : Type 0
SlotOnIs =
    (w s addr i : ℕ) → Strided w s → i < w / s → bits s (slot_on w s addr i) ≡ take s (drop (s * i) (bits w addr))
