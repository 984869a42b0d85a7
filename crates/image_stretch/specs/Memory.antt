-- Defines a builder's memory: the words of the nodes done, then the nodes still to do, each in the words of its node. So the nodes lent
-- are the queue, and no other memory is needed: RULES, "Nodes". Assumes nothing.
use Rattle.std.specs.Prelude.{cond, List, ◌++◌, ℕ, ◌+◌, ◌-◌, ◌*◌, ◌/◌, ◌%◌, ◌^◌, eqb, length, take, drop, replicate}
use Rattle.std.proofs.lemmas.List.Edits.{sets}
use Rattle.lists.specs.Flat.{flat, upto}
use Rattle.image_rules.specs.Node.{node_size, node_words, offset, bitmap_of, offset_of, store_nodes}
use Rattle.image_rules.specs.Breadth.{Slot, slot_children, slot_ports, leaf_bit, bitmap, children, tree_words}
use Rattle.image_stretch.specs.declared.Stretch.{Stretch}
use Rattle.image_stretch.specs.declared.Filled.{Filled}
use Rattle.image_stretch.specs.declared.Free.{Free}
use Rattle.image_stretch.specs.Stretches.{stretch, half_word}

-- two numbers in one word, and back
abbrev pub in_halves : ℕ → ℕ → ℕ
in_halves high low = high * half_word + low

abbrev pub high_half : ℕ → ℕ
high_half word = word / half_word

abbrev pub low_half : ℕ → ℕ
low_half word = word % half_word

-- a node still to do, in the two words of its node
abbrev pub pending : Stretch → List ℕ
pending x = node_words (in_halves x.lo x.hi) (in_halves x.depth x.best)

-- node a, read as one still to do
abbrev pub pending_at : List ℕ → ℕ → Stretch
pending_at nodes a =
    stretch (high_half (bitmap_of nodes a)) (low_half (bitmap_of nodes a)) (high_half (offset_of nodes a)) (low_half (offset_of nodes a))

abbrev pub free : ℕ → ℕ → Free
free node leaf = record { node = record { 0 = node }; leaf = record { 0 = leaf } }

abbrev pub filled : ℕ → ℕ → ℕ → Filled
filled bitmap node leaf = record { bitmap = bitmap; node = record { 0 = node }; leaf = record { 0 = leaf } }

-- one slot more of a node
abbrev pub filled_by : Slot Stretch → Filled → Filled
filled_by o st = filled (st.bitmap * 2 + leaf_bit o) (st.node.0 + length (slot_children o)) (st.leaf.0 + length (slot_ports o))

-- k leaves more: a one in the bitmap for each
abbrev pub filled_leaves : ℕ → Filled → Filled
filled_leaves k st = filled ((st.bitmap + 1) * 2 ^ k - 1) st.node.0 (st.leaf.0 + k)

-- the ports lent, with those still owed: one port from a place up to another
abbrev pub owed : List ℕ → ℕ → ℕ → ℕ → List ℕ
owed ports kept leaf port = sets ports kept (replicate (leaf - kept) port)

-- up to where the ports are stored after a slot, which had a port exactly if there is a leaf more
abbrev pub kept_after : ℕ → ℕ → ℕ → ℕ
kept_after kept before after = cond (eqb before after) kept after

-- node a built: its children are put from node next on, the first that is not in use, and then its words over its own
abbrev pub build_node : (Stretch → List (Slot Stretch)) → List ℕ → ℕ → ℕ → Stretch → List ℕ
build_node slots nodes a next x =
    store_nodes (store_nodes nodes next (flat pending (children slots x))) a (node_words (bitmap (slots x)) (offset next a))

-- how many nodes are in use when i of `all` are done
abbrev pub used_after : (Stretch → List (Slot Stretch)) → List Stretch → ℕ → ℕ
used_after slots all i = 1 + upto (children slots) all i

abbrev pub memory : (Stretch → List (Slot Stretch)) → List Stretch → ℕ → List ℕ → List ℕ
memory slots all i lent =
    tree_words slots (take i all) ++ flat pending (take (used_after slots all i - i) (drop i all)) ++ drop (used_after slots all i * node_size) lent
