-- Reading back the words and ports of nodes, also where more words are lent after them. Assumes nothing.
use mathlib.Core.Path.{◌≡◌, refl, sym, ap, ap₂, ◌∙◌}
use mathlib.Core.Bool.{true}
use mathlib.Core.List.{List, [], ◌∷◌, ◌++◌}
use Prim.Native.Nat.{ℕ, zero, suc, ◌+◌, ◌-◌, ◌*◌, ◌^◌, ◌≤◌, ◌<◌}
use native.Mathlib.Omega.{arith}
use native.Mathlib.Nat.{add-zero}
use lib.ListN.{length, get_or, drop, length-append, get_or-append}
use lib.Seq.{get_or-drop, drop-cons}
use borrow.Author.Tests.{lt-ltb, le-leb}
use Rattle.bits.specs.Bitmap.{slot_bit, ones_before, zeros_before}
use Rattle.lists.specs.Flat.{flat, upto}
use Rattle.image_rules.specs.Node.{node_size, node_count, is_node, bitmap_of, offset_of, next_of, base_of, is_based}
use Rattle.image_rules.specs.Breadth.{Slot, leaf, non_leaf, slot_ports, slot_children, leaf_bit, bitmap, children, leaf_ports, words, tree_words, tree_ports}
use Rattle.image_rules.specs.Lookup.{leaf_of, child_at}
use Rattle.lists.proofs.Flat.{flat_at, flat_lt}
use Rattle.image_rules.proofs.Counts.{bitmap_lt, ones_before_bitmap, zeros_before_bitmap, slot_bit_bitmap, slots_upto}

module _ {X : Type 0} (slots : X → List (Slot X)) where
  words_like : {a a' c c' : ℕ} (xs : List X) → a ≡ a' → c ≡ c' → words slots a c xs ≡ words slots a' c' xs
  words_like {a} {a'} {c} {c'} xs p q = ap₂ (λ (y z : ℕ). words slots y z xs) p q

  pub length_words : (a c : ℕ) (xs : List X) → length (words slots a c xs) ≡ length xs * node_size
  length_words a c [] = refl
  length_words a c (x ∷ xs) = omega (arith, length_words (a + 1) (c + length (children slots x)) xs)

  -- the words from element i on
  pub drop_words : (i a c : ℕ) (xs : List X) → i ≤ length xs
      → drop (i * node_size) (words slots a c xs) ≡ words slots (a + i) (c + upto (children slots) xs i) (drop i xs)
  drop_words zero a c [] h = refl
  drop_words zero a c (x ∷ xs) h = words_like (x ∷ xs) (sym (add-zero a)) (sym (add-zero c))
  drop_words (suc i) a c [] h = absurd (omega arith)
  drop_words (suc i) a c (x ∷ xs) h =
      let e : suc i * node_size ≡ suc (suc (i * node_size)) = omega arith in
      ap (λ (k : ℕ). drop k (words slots a c (x ∷ xs))) e
      ∙ drop_words i (a + 1) (c + length (children slots x)) xs (omega arith)
      ∙ words_like (drop i xs) (omega arith) (omega arith)

  -- word r of element i
  pub word_at : (i r a c : ℕ) (xs : List X) (d : X) → i < length xs
      → get_or (words slots a c xs) (i * node_size + r) 0
      ≡ get_or (words slots (a + i) (c + upto (children slots) xs i) (get_or xs i d ∷ drop (suc i) xs)) r 0
  word_at i r a c xs d h =
      sym (get_or-drop (i * node_size) (words slots a c xs) r 0)
      ∙ ap (λ (ws : List ℕ). get_or ws r 0)
      (drop_words i a c xs (omega arith)
      ∙ ap (words slots (a + i) (c + upto (children slots) xs i)) (drop-cons xs i d h))

-- a is the number of a node of xs, and that node is y
pub record Numbers {X : Type 0} (xs : List X) (root : X) (a : ℕ) (y : X) : Type 0 where
  pub at : ℕ
  pub number : a ≡ suc at
  pub stored : at < length xs
  pub is : get_or xs at root ≡ y

-- the nodes of a tree: n slots each, and none stands after its first child
pub record Tree {X : Type 0} (slots : X → List (Slot X)) (n : ℕ) (xs : List X) : Type 0 where
  pub whole : (x : X) → length (slots x) ≡ n
  pub before : (i : ℕ) → i < length xs → i < 1 + upto (children slots) xs i

-- the nodes xs stand first in the words lent, and their ports first in the ports lent
module _ {X : Type 0} (slots : X → List (Slot X)) (n : ℕ) (xs : List X) (root : X) (tree : Tree slots n xs) (more extra : List ℕ) where
  abbrev pub nodes_lent : List ℕ
  nodes_lent = tree_words slots xs ++ more

  abbrev pub ports_lent : List ℕ
  ports_lent = tree_ports slots xs ++ extra

  abbrev pub node_at : ℕ → X
  node_at i = get_or xs i root

  word_lent : (i r : ℕ) → i < length xs → r < node_size
      → get_or nodes_lent (i * node_size + r) 0
      ≡ get_or (words slots (1 + i) (2 + upto (children slots) xs i) (node_at i ∷ drop (suc i) xs)) r 0
  word_lent i r h k =
      get_or-append (tree_words slots xs) more 0 (i * node_size + r) (omega (arith, length_words slots 1 2 xs))
      ∙ word_at slots i r 1 2 xs root h

  module _ (i : ℕ) (h : i < length xs) where
    pub is_node_lem : is_node nodes_lent (suc i) ≡ true
    is_node_lem =
        let l : suc i ≤ node_count nodes_lent =
        omega (arith, length-append (tree_words slots xs) more, length_words slots 1 2 xs) in
        rw (lt-ltb 0 (suc i) (omega arith), le-leb (suc i) (node_count nodes_lent) l)

    pub bitmap_is : bitmap_of nodes_lent (suc i) ≡ bitmap (slots (node_at i))
    bitmap_is =
        let e : (suc i - 1) * node_size ≡ i * node_size + 0 = omega arith in
        ap (λ (z : ℕ). get_or nodes_lent z 0) e ∙ word_lent i 0 h (omega arith)

    offset_is : offset_of nodes_lent (suc i) ≡ 2 + upto (children slots) xs i - (1 + i)
    offset_is =
        let e : suc i - 1 ≡ i = omega arith in
        ap (λ (z : ℕ). get_or nodes_lent (z * node_size + 1) 0) e ∙ word_lent i 1 h (omega arith)

    pub next_is_lem : next_of nodes_lent (suc i) ≡ 2 + upto (children slots) xs i
    next_is_lem = omega (arith, offset_is, tree.before i h)

    slots_before_lem : n * (suc i - 1) ≡ upto (leaf_ports slots) xs i + upto (children slots) xs i
    slots_before_lem =
        let e : suc i - 1 ≡ i = omega arith in
        ap (λ (z : ℕ). n * z) e ∙ sym (slots_upto slots n tree.whole xs i (omega arith))

    pub base_is : base_of n nodes_lent (suc i) ≡ upto (leaf_ports slots) xs i
    base_is = omega (arith, slots_before_lem, next_is_lem)

    pub is_based_lem : is_based n nodes_lent (suc i) ≡ true
    is_based_lem =
        rw (
          le-leb 2 (next_of nodes_lent (suc i)) (omega (arith, next_is_lem)),
          le-leb (next_of nodes_lent (suc i) - 2) (n * (suc i - 1)) (omega (arith, slots_before_lem, next_is_lem)),
        )

    len : length (slots (node_at i)) ≡ n
    len = tree.whole (node_at i)

    pub bitmap_small : bitmap_of nodes_lent (suc i) < 2 ^ n
    bitmap_small = rw bitmap_is (rw len at (bitmap_lt (slots (node_at i))))

    -- slot j of n
    module _ (j : ℕ) (k : j < n) where
      abbrev pub slot_held : Slot X
      slot_held = get_or (slots (node_at i)) j (leaf 0)

      in_slots : j < length (slots (node_at i))
      in_slots = omega (arith, len)

      pub slot_bit_is : slot_bit n (bitmap_of nodes_lent (suc i)) j ≡ leaf_bit slot_held
      slot_bit_is = rw bitmap_is (rw len at (slot_bit_bitmap (slots (node_at i)) j (leaf 0) in_slots))

      ones_is : ones_before n (bitmap_of nodes_lent (suc i)) j ≡ upto slot_ports (slots (node_at i)) j
      ones_is = rw bitmap_is (rw len at (ones_before_bitmap (slots (node_at i)) j (omega (arith, in_slots))))

      zeros_is : zeros_before n (bitmap_of nodes_lent (suc i)) j ≡ upto slot_children (slots (node_at i)) j
      zeros_is = rw bitmap_is (rw len at (zeros_before_bitmap (slots (node_at i)) j (omega (arith, in_slots))))

      -- a leaf: its number is that of its port
      module _ (p : ℕ) (e : slot_held ≡ leaf p) where
        one_port : 0 < length (slot_ports slot_held)
        one_port = rw e (omega arith)

        leaf_lt : upto slot_ports (slots (node_at i)) j < length (leaf_ports slots (node_at i))
        leaf_lt = omega (arith, flat_lt slot_ports (slots (node_at i)) j 0 (leaf 0) in_slots one_port)

        leaf_of_is : leaf_of n nodes_lent (suc i) j ≡ upto (leaf_ports slots) xs i + upto slot_ports (slots (node_at i)) j
        leaf_of_is = omega (arith, base_is, ones_is)

        leaf_stored : leaf_of n nodes_lent (suc i) j < length (tree_ports slots xs)
        leaf_stored = omega (arith, leaf_of_is, flat_lt (leaf_ports slots) xs i (upto slot_ports (slots (node_at i)) j) root h leaf_lt)

        pub leaf_lent : leaf_of n nodes_lent (suc i) j < length ports_lent
        leaf_lent = omega (arith, leaf_stored, length-append (tree_ports slots xs) extra)

        pub port_is : get_or ports_lent (leaf_of n nodes_lent (suc i) j) 0 ≡ p
        port_is =
            get_or-append (tree_ports slots xs) extra 0 (leaf_of n nodes_lent (suc i) j) leaf_stored
            ∙ ap (λ (z : ℕ). get_or (tree_ports slots xs) z 0) leaf_of_is
            ∙ flat_at (leaf_ports slots) xs i (upto slot_ports (slots (node_at i)) j) root 0 h leaf_lt
            ∙ ap (λ (z : ℕ). get_or (leaf_ports slots (node_at i)) z 0) (sym (add-zero (upto slot_ports (slots (node_at i)) j)))
            ∙ flat_at slot_ports (slots (node_at i)) j 0 (leaf 0) 0 in_slots one_port
            ∙ ap (λ (o : Slot X). get_or (slot_ports o) 0 0) e

      -- a non-leaf: its number is that of its node, by the numbering law
      module _ (y : X) (e : slot_held ≡ non_leaf y) (is : xs ≡ root ∷ flat (children slots) xs) where
        one_child : 0 < length (slot_children slot_held)
        one_child = rw e (omega arith)

        child_lt : upto slot_children (slots (node_at i)) j < length (children slots (node_at i))
        child_lt = omega (arith, flat_lt slot_children (slots (node_at i)) j 0 (leaf 0) in_slots one_child)

        abbrev child : ℕ
        child = suc (upto (children slots) xs i + upto slot_children (slots (node_at i)) j)

        child_at_is : child_at n nodes_lent (suc i) j ≡ suc child
        child_at_is = omega (arith, next_is_lem, zeros_is)

        child_is : node_at child ≡ y
        child_is =
            ap (λ (l : List X). get_or l child root) is
            ∙ flat_at (children slots) xs i (upto slot_children (slots (node_at i)) j) root root h child_lt
            ∙ ap (λ (z : ℕ). get_or (children slots (node_at i)) z root) (sym (add-zero (upto slot_children (slots (node_at i)) j)))
            ∙ flat_at slot_children (slots (node_at i)) j 0 (leaf 0) root in_slots one_child
            ∙ ap (λ (o : Slot X). get_or (slot_children o) 0 root) e

        pub child_numbers : Numbers xs root (child_at n nodes_lent (suc i) j) y
        child_numbers = record {
          at = child;
          number = child_at_is;
          stored = omega (arith, ap length is, flat_lt (children slots) xs i (upto slot_children (slots (node_at i)) j) root h child_lt);
          is = child_is;
        }
