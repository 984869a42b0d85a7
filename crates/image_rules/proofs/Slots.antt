-- The slots of an image's nodes: their numbering, and what the words lent say of each. Assumes nothing.
use mathlib.Core.Path.{◌≡◌, refl, ap, ◌∙◌}
use mathlib.Core.Bool.{Bool, true, false, cond}
use mathlib.Core.List.{List, [], ◌∷◌, ◌++◌, Memᴰ}
use Prim.Native.Nat.{ℕ, zero, suc, ◌+◌, ◌*◌, ◌^◌, ◌≤◌, ◌<◌}
use native.Mathlib.Omega.{arith}
use native.Mathlib.Nat.{zero-add}
use lib.ListN.{length, get_or, length-append}
use borrow.Author.Tests.{lt-ltb}
use Rattle.bits.specs.Bits.{Bits, bits}
use Rattle.bits.specs.Bitmap.{slot_bit}
use Rattle.bits.proofs.Bits.{length_bits}
use Rattle.trie.specs.Routes.{Route}
use Rattle.trie.specs.Scan.{scan_list}
use Rattle.lists.proofs.Numbered.{length_list_of, get_d_list_of}
use Rattle.lists.specs.Flat.{flat}
use Rattle.image_rules.specs.Node.{is_node, bitmap_of}
use Rattle.image_rules.specs.Breadth.{leaf, non_leaf, leaf_bit, children}
use Rattle.image_rules.specs.Image.{some_longer, slot_of, slot_bits, slots, image_paths, image_nodes, image_ports}
use Rattle.image_rules.specs.Lookup.{leaf_of, child_at, is_sound}
use Rattle.lists.proofs.Flat.{All, all_list_of}
use Rattle.image_rules.proofs.Numbering.{Below, levels_is, first_child_lt}
use Rattle.image_rules.proofs.Longer.{some-longer→}
use Rattle.image_rules.proofs.Words.{Tree, is_node_lem, bitmap_small, is_based_lem, slot_bit_is, leaf_lent, port_is, Numbers, child_numbers}

pub length_slot_bits : (s : ℕ) (q : Bits) (j : ℕ) → length (slot_bits s q j) ≡ length q + s
length_slot_bits s q j = length-append q (bits s j) ∙ ap (λ (n : ℕ). length q + n) (length_bits s j)

module _ (rs : List Route) (s : ℕ) where
  pub length_slots : (q : Bits) → length (slots rs s q) ≡ 2 ^ s
  length_slots q = length_list_of (λ j. slot_of rs (slot_bits s q j)) (2 ^ s) 0

  pub slot_is : (q : Bits) (j : ℕ) → j < 2 ^ s → get_or (slots rs s q) j (leaf 0) ≡ slot_of rs (slot_bits s q j)
  slot_is q j h =
      get_d_list_of (λ i. slot_of rs (slot_bits s q i)) (2 ^ s) 0 j (leaf 0) h
      ∙ ap (λ (i : ℕ). slot_of rs (slot_bits s q i)) (zero-add j)

  -- an image's nodes, however many levels it has
  pub image_tree : (k : ℕ) → Tree (slots rs s) (2 ^ s) (image_paths s k rs)
  image_tree k = record { whole = length_slots; before = λ i h. first_child_lt (slots rs s) k ([] ∷ []) i h }

  -- a node with k levels left, the last of which ends the address
  module _ (w : ℕ) (short : (r : Route) → Memᴰ r rs → length r.prefix ≤ w) where
    abbrev pub Deep : ℕ → Bits → Type 0
    Deep k q = (length q + s * k ≡ w) × (0 < k)

    -- a non-leaf is not at the end of the address, or a route would be longer than that
    pub deep_slot : (k : ℕ) (q : Bits) (j : ℕ) → Deep (suc k) q → some_longer rs (slot_bits s q j) ≡ true → Deep k (slot_bits s q j)
    deep_slot zero q j d t =
        let l = some-longer→ rs (slot_bits s q j) t in
        absurd (omega (arith, d.0, l.3, short l.0 l.1, length_slot_bits s q j))
    deep_slot (suc k) q j d t = (omega (arith, d.0, length_slot_bits s q j), omega arith)

    below_slots : (k : ℕ) (q : Bits) → Deep (suc k) q → All (Below Deep k) (slots rs s q)
    below_slots k q d = all_list_of (Below Deep k) (λ j. slot_of rs (slot_bits s q j)) (2 ^ s) 0 (λ j. by j (some_longer rs (slot_bits s q j)) refl)
      where
        by : (j : ℕ) (b : Bool) → some_longer rs (slot_bits s q j) ≡ b
            → Below Deep k (cond b (non_leaf (slot_bits s q j)) (leaf (scan_list rs (slot_bits s q j))))
        by j true t = deep_slot k q j d t
        by j false t = tt

    module _ (k : ℕ) (d : Deep k []) where
      pub paths_numbered : image_paths s k rs ≡ [] ∷ flat (children (slots rs s)) (image_paths s k rs)
      paths_numbered = levels_is (slots rs s) Deep (λ q e. omega (arith, e.1)) below_slots k ([] ∷ []) (d, tt)

-- what a stored node says in the words lent
module _ (s k : ℕ) (rs : List Route) (more extra : List ℕ) (i : ℕ) (h : i < length (image_paths s k rs)) where
  abbrev lent_nodes : List ℕ
  lent_nodes = image_nodes s k rs ++ more

  abbrev lent_ports : List ℕ
  lent_ports = image_ports s k rs ++ extra

  abbrev path : Bits
  path = get_or (image_paths s k rs) i []

  pub stored_node : is_node lent_nodes (suc i) ≡ true
  stored_node = is_node_lem (slots rs s) (2 ^ s) (image_paths s k rs) [] (image_tree rs s k) more extra i h

  pub stored_small : bitmap_of lent_nodes (suc i) < 2 ^ (2 ^ s)
  stored_small = bitmap_small (slots rs s) (2 ^ s) (image_paths s k rs) [] (image_tree rs s k) more extra i h

  pub stored_sound : is_sound s lent_nodes (suc i) ≡ true
  stored_sound =
      rw (
        lt-ltb (bitmap_of lent_nodes (suc i)) (2 ^ (2 ^ s)) stored_small,
        is_based_lem (slots rs s) (2 ^ s) (image_paths s k rs) [] (image_tree rs s k) more extra i h,
      )

  -- slot j, by the test of its bits
  module _ (j : ℕ) (l : j < 2 ^ s) where
    abbrev below : Bits
    below = slot_bits s path j

    pub stored_bit : slot_bit (2 ^ s) (bitmap_of lent_nodes (suc i)) j ≡ leaf_bit (slot_of rs below)
    stored_bit =
        slot_bit_is (slots rs s) (2 ^ s) (image_paths s k rs) [] (image_tree rs s k) more extra i h j l
        ∙ ap leaf_bit (slot_is rs s path j l)

    held_slot : (b : Bool) → some_longer rs below ≡ b
        → get_or (slots rs s path) j (leaf 0) ≡ cond b (non_leaf below) (leaf (scan_list rs below))
    held_slot b t = slot_is rs s path j l ∙ ap (λ (c : Bool). cond c (non_leaf below) (leaf (scan_list rs below))) t

    -- a leaf
    module _ (t : some_longer rs below ≡ false) where
      pub leaf_bit_lem : slot_bit (2 ^ s) (bitmap_of lent_nodes (suc i)) j ≡ 1
      leaf_bit_lem = stored_bit ∙ ap (λ (c : Bool). leaf_bit (cond c (non_leaf below) (leaf (scan_list rs below)))) t

      pub leaf_number_lt : leaf_of (2 ^ s) lent_nodes (suc i) j < length lent_ports
      leaf_number_lt =
          leaf_lent (slots rs s) (2 ^ s) (image_paths s k rs) [] (image_tree rs s k) more extra i h j l (scan_list rs below) (held_slot false t)

      pub leaf_port_lem : get_or lent_ports (leaf_of (2 ^ s) lent_nodes (suc i) j) 0 ≡ scan_list rs below
      leaf_port_lem =
          port_is (slots rs s) (2 ^ s) (image_paths s k rs) [] (image_tree rs s k) more extra i h j l (scan_list rs below) (held_slot false t)

    -- a non-leaf
    module _ (t : some_longer rs below ≡ true) where
      pub child_bit : slot_bit (2 ^ s) (bitmap_of lent_nodes (suc i)) j ≡ 0
      child_bit = stored_bit ∙ ap (λ (c : Bool). leaf_bit (cond c (non_leaf below) (leaf (scan_list rs below)))) t

      pub child_stored : image_paths s k rs ≡ [] ∷ flat (children (slots rs s)) (image_paths s k rs)
          → Numbers (image_paths s k rs) [] (child_at (2 ^ s) lent_nodes (suc i) j) below
      child_stored is =
          child_numbers (slots rs s) (2 ^ s) (image_paths s k rs) [] (image_tree rs s k) more extra i h j l below (held_slot true t) is
