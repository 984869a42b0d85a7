-- A built image has one node for each path in it; a node's offset leads to the next unused number, its first child's, its leaf base
-- counts the leaves before it, and no lookup refuses it: RULES, "Nodes". Assumes nothing.
use mathlib.Core.Path.{◌≡◌, refl, sym, ap, ap₂, subst, ◌∙◌}
use mathlib.Core.Logic.{⊎_elim}
use mathlib.Core.Bool.{Bool, true, false, cond}
use mathlib.Core.List.{List, [], ◌∷◌, ◌++◌}
use Prim.Native.Nat.{ℕ, zero, suc, ◌+◌, ◌-◌, ◌/◌, ◌^◌, ◌≤◌, ◌<◌}
use native.Mathlib.Omega.{arith}
use native.Mathlib.Nat.{div-one}
use lib.ListN.{length, get_or, take, drop, length-append}
use lib.Seq.{take_at, drop_at}
use Rattle.bits.specs.Bits.{Bits, bits}
use Rattle.bits.specs.Bitmap.{zeros_before, slots_with}
use Rattle.bits.proofs.Bits.{prefix_unique}
use Rattle.bits.proofs.Bitmap.{ones_before_counts, zeros_before_counts, slots_with_none}
use Rattle.lists.specs.Flat.{flat, upto}
use Rattle.lists.proofs.Flat.{flat_at, upto_suc}
use Rattle.lists.proofs.Tests.{lt_or_le}
use Rattle.trie.specs.Routes.{Route}
use Rattle.trie.specs.Scan.{scan_list}
use Rattle.image_rules.specs.Node.{bitmap_of, next_of, base_of}
use Rattle.image_rules.specs.Breadth.{Slot, leaf, non_leaf, slot_ports, slot_children, bitmap, children, leaf_ports}
use Rattle.image_rules.specs.Image.{some_longer, slot_of, slot_bits, slots, image_paths, image_nodes, path_of}
use Rattle.image_rules.specs.Lookup.{child_at}
use Rattle.image_rules.specs.Built.{NodesDistinct, OffsetFirst, slots_up_to, leaves_up_to, children_up_to, NextRule, LeafBaseRule, NodesSound}
use Rattle.image_rules.specs.NodesRead.{Sound}
use Rattle.image_rules.proofs.Counts.{upto_all, bitmap_lt, ones_before_bitmap, zeros_before_bitmap}
use Rattle.image_rules.proofs.Sound.{sound_is}
use Rattle.image_rules.proofs.Words.{bitmap_is, next_is_lem, base_is}
use Rattle.image_rules.proofs.Slots.{length_slots, slot_is, length_slot_bits, image_tree, paths_numbered, stored_small, stored_sound}
use Rattle.image_rules.proofs.Image.{deep_root, alone, node_number, stride_pos, child_rule}

-- what stands at a place of all that elements give comes from one of them
record From {A B : Type 0} (f : A → List B) (xs : List A) (d : A) (m : ℕ) : Type 0 where
  at : ℕ
  rank : ℕ
  stored : at < length xs
  few : rank < length (f (get_or xs at d))
  place : m ≡ upto f xs at + rank

flat_from : {A B : Type 0} (f : A → List B) (d : A) (xs : List A) (m : ℕ) → m < length (flat f xs) → From f xs d m
flat_from f d [] m h = absurd (omega arith)
flat_from f d (x ∷ xs) m h =
    ⊎_elim
    (λ (l : m < length (f x)). record { at = 0; rank = m; stored = omega arith; few = l; place = omega arith })
    (λ (g : length (f x) ≤ m).
    let r = flat_from f d xs (m - length (f x)) (omega (arith, length-append (f x) (flat f xs))) in
    record { at = suc r.at; rank = r.rank; stored = omega (arith, r.stored); few = r.few; place = omega (arith, r.place) })
    (lt_or_le m (length (f x)))

-- a slot's bits are those of one node and one slot
slot_bits_unique : (s : ℕ) (p q : Bits) (i j : ℕ) → i < 2 ^ s → j < 2 ^ s → slot_bits s p i ≡ slot_bits s q j → (p ≡ q) × (i ≡ j)
slot_bits_unique s p q i j li lj e =
    let n : length q ≡ length p = omega (arith, ap length e, length_slot_bits s p i, length_slot_bits s q j) in
    let b : bits s i ≡ bits s j = sym (drop_at p (bits s i) (length p) refl) ∙ ap (drop (length p)) e ∙ drop_at q (bits s j) (length p) n in
    let h = (prefix_unique s i j s s (omega arith) (omega arith) li lj (ap (take s) b)).1 in
    let z : s - s ≡ 0 = omega arith in
    (sym (take_at p (bits s i) (length p) refl) ∙ ap (take (length p)) e ∙ take_at q (bits s j) (length p) n, rw (z, div-one i, div-one j) at h)

-- the child in a slot
child_in : (q : Bits) (p : ℕ) (b : Bool) (r : ℕ) → r < length (slot_children (cond b (non_leaf q) (leaf p)))
    → (r ≡ 0) × (get_or (slot_children (cond b (non_leaf q) (leaf p))) r [] ≡ q)
child_in q p true r h = let z : r ≡ 0 = omega arith in (z, rw z)
child_in q p false r h = absurd (omega arith)

module _ (rs : List Route) (s k : ℕ) (is : image_paths s k rs ≡ [] ∷ flat (children (slots rs s)) (image_paths s k rs)) where
  abbrev paths : List Bits
  paths = image_paths s k rs

  abbrev below : Bits → List Bits
  below = children (slots rs s)

  -- every node but the root comes from a slot of a node
  record Parent (m : ℕ) : Type 0 where
    at : ℕ
    slot : ℕ
    stored : at < length paths
    in_node : slot < 2 ^ s
    path : get_or paths (suc m) [] ≡ slot_bits s (get_or paths at []) slot
    place : m ≡ upto below paths at + upto slot_children (slots rs s (get_or paths at [])) slot

  module _ (m : ℕ) (f : From below paths [] m) (g : From slot_children (slots rs s (get_or paths f.at [])) (leaf 0) f.rank) where
    abbrev q : Bits
    q = get_or paths f.at []

    abbrev slotted : Bits
    slotted = slot_bits s q g.at

    slot_lt : g.at < 2 ^ s
    slot_lt = omega (arith, g.stored, length_slots rs s q)

    holds : get_or (slots rs s q) g.at (leaf 0) ≡ slot_of rs slotted
    holds = slot_is rs s q g.at slot_lt

    child : (g.rank ≡ 0) × (get_or (slot_children (slot_of rs slotted)) g.rank [] ≡ slotted)
    child =
        child_in slotted (scan_list rs slotted) (some_longer rs slotted) g.rank
        (subst (λ (x : Slot Bits). g.rank < length (slot_children x)) holds g.few)

    path_in_node : get_or (below q) f.rank [] ≡ slotted
    path_in_node =
        ap (λ (n : ℕ). get_or (below q) n []) g.place
        ∙ flat_at slot_children (slots rs s q) g.at g.rank (leaf 0) [] g.stored g.few
        ∙ ap (λ (x : Slot Bits). get_or (slot_children x) g.rank []) holds
        ∙ child.1

    parent_of : Parent m
    parent_of = record {
      at = f.at;
      slot = g.at;
      stored = f.stored;
      in_node = slot_lt;
      path =
          ap (λ (xs : List Bits). get_or xs (suc m) []) is
          ∙ ap (λ (n : ℕ). get_or (flat below paths) n []) f.place
          ∙ flat_at below paths f.at f.rank [] [] f.stored f.few
          ∙ path_in_node;
      place = omega (arith, f.place, g.place, child.0);
    }

  parent : (m : ℕ) → suc m < length paths → Parent m
  parent m h =
      let f = flat_from below [] paths m (omega (arith, ap length is)) in
      parent_of m f (flat_from slot_children (leaf 0) (slots rs s (get_or paths f.at [])) f.rank f.few)

  module _ (pos : 0 < s) (after : (i : ℕ) → i < length paths → i < 1 + upto below paths i) where
    root_alone : (m : ℕ) → suc m < length paths → get_or paths 0 [] ≡ get_or paths (suc m) [] → ⊥
    root_alone m h e =
        let p = parent m h in
        let z : get_or paths 0 [] ≡ [] = ap (λ (xs : List Bits). get_or xs 0 []) is in
        omega (arith, ap length (sym z ∙ e ∙ p.path), length_slot_bits s (get_or paths p.at []) p.slot)

    -- up to n nodes: two with the same path have the same parent and slot
    paths_unique : (n a b : ℕ) → a < n → a < length paths → b < length paths → get_or paths a [] ≡ get_or paths b [] → a ≡ b
    paths_unique zero a b l h h' e = absurd (omega arith)
    paths_unique (suc n) zero zero l h h' e = refl
    paths_unique (suc n) zero (suc b) l h h' e = absurd (root_alone b h' e)
    paths_unique (suc n) (suc a) zero l h h' e = absurd (root_alone a h (sym e))
    paths_unique (suc n) (suc a) (suc b) l h h' e =
        let p = parent a h in
        let q = parent b h' in
        let u = slot_bits_unique s (get_or paths p.at []) (get_or paths q.at []) p.slot q.slot p.in_node q.in_node
        (sym p.path ∙ e ∙ q.path) in
        let i : p.at ≡ q.at =
        paths_unique n p.at q.at (omega (arith, after p.at p.stored, p.place)) p.stored q.stored u.0 in
        let x : upto below paths p.at ≡ upto below paths q.at = ap (upto below paths) i in
        let y : upto slot_children (slots rs s (get_or paths p.at [])) p.slot ≡ upto slot_children (slots rs s (get_or paths q.at [])) q.slot =
        ap₂ (λ (t : Bits) (j : ℕ). upto slot_children (slots rs s t) j) u.0 u.1 in
        omega (arith, p.place, q.place, x, y)

pub nodes_distinct : NodesDistinct
nodes_distinct w s rs a b st ok t t' e =
    let K = w / s in
    let d = deep_root st rs ok in
    let x = node_number s K rs a t in
    let y = node_number s K rs b t' in
    let i : a - 1 ≡ b - 1 =
    paths_unique rs s K (paths_numbered rs s w ok.short K d) (stride_pos s st.stride) (image_tree rs s K).before
    (suc (a - 1)) (a - 1) (b - 1) (omega arith) x.1 y.1 e in
    omega (arith, x.0, y.0, i)

-- the leaves and the children of a node, by its bitmap
module _ {X : Type 0} (os : List (Slot X)) where
  leaves_of : slots_with (length os) (bitmap os) 1 (length os) ≡ length (flat slot_ports os)
  leaves_of =
      sym (ones_before_counts (length os) (bitmap os) (length os) (omega arith) (bitmap_lt os))
      ∙ ones_before_bitmap os (length os) (omega arith) ∙ upto_all slot_ports os

  children_of : slots_with (length os) (bitmap os) 0 (length os) ≡ length (flat slot_children os)
  children_of =
      sym (zeros_before_counts (length os) (bitmap os) (length os) (omega arith) (bitmap_lt os))
      ∙ zeros_before_bitmap os (length os) (omega arith) ∙ upto_all slot_children os

module _ (s k : ℕ) (rs : List Route) where
  abbrev lent : List ℕ
  lent = image_nodes s k rs ++ []

  abbrev path_at : ℕ → Bits
  path_at i = get_or (image_paths s k rs) i []

  module _ (i : ℕ) (h : i < length (image_paths s k rs)) where
    map_is : bitmap_of lent (suc i) ≡ bitmap (slots rs s (path_at i))
    map_is = bitmap_is (slots rs s) (2 ^ s) (image_paths s k rs) [] (image_tree rs s k) [] [] i h

    -- the count of a bit by the slots themselves is the count by the node's words
    count_in_lem : (b c : ℕ)
        → slots_with (length (slots rs s (path_at i))) (bitmap (slots rs s (path_at i))) b (length (slots rs s (path_at i))) ≡ c
        → slots_with (2 ^ s) (bitmap_of lent (suc i)) b (2 ^ s) ≡ c
    count_in_lem b c e =
        ap (λ (m : ℕ). slots_with (2 ^ s) m b (2 ^ s)) map_is
        ∙ subst (λ (n : ℕ). slots_with n (bitmap (slots rs s (path_at i))) b n ≡ c) (length_slots rs s (path_at i)) e

    leaves_in : slots_with (2 ^ s) (bitmap_of lent (suc i)) 1 (2 ^ s) ≡ length (leaf_ports (slots rs s) (path_at i))
    leaves_in = count_in_lem 1 (length (leaf_ports (slots rs s) (path_at i))) (leaves_of (slots rs s (path_at i)))

    children_in : slots_with (2 ^ s) (bitmap_of lent (suc i)) 0 (2 ^ s) ≡ length (children (slots rs s) (path_at i))
    children_in = count_in_lem 0 (length (children (slots rs s) (path_at i))) (children_of (slots rs s (path_at i)))

  -- the slots with bit b of the first nodes are what f gives for them, if they are so of each
  slots_up_to_lem : {B : Type 0} (b : ℕ) (f : Bits → List B)
      → ((i : ℕ) → i < length (image_paths s k rs) → slots_with (2 ^ s) (bitmap_of lent (suc i)) b (2 ^ s) ≡ length (f (path_at i)))
      → (a : ℕ) → a ≤ length (image_paths s k rs) → slots_up_to b s lent a ≡ upto f (image_paths s k rs) a
  slots_up_to_lem b f each zero h = sym (upto_none (image_paths s k rs))
    where
      upto_none : (xs : List Bits) → upto f xs 0 ≡ 0
      upto_none [] = refl
      upto_none (x ∷ xs) = refl
  slots_up_to_lem b f each (suc a) h =
      omega (
        arith,
        slots_up_to_lem b f each a (omega arith),
        each a (omega arith),
        upto_suc f (image_paths s k rs) a [] (omega arith),
      )

  leaves_up_to_lem : (a : ℕ) → a ≤ length (image_paths s k rs) → leaves_up_to s lent a ≡ upto (leaf_ports (slots rs s)) (image_paths s k rs) a
  leaves_up_to_lem = slots_up_to_lem 1 (leaf_ports (slots rs s)) leaves_in

  children_up_to_lem : (a : ℕ) → a ≤ length (image_paths s k rs) → children_up_to s lent a ≡ upto (children (slots rs s)) (image_paths s k rs) a
  children_up_to_lem = slots_up_to_lem 0 (children (slots rs s)) children_in

pub next_rule : NextRule
next_rule s k rs a t =
    let h : a < length (image_paths s k rs) = omega (arith, (node_number s k rs (suc a) t).1) in
    alone (λ ws. next_of ws (suc a) ≡ 2 + children_up_to s ws a) (image_nodes s k rs)
    (next_is_lem (slots rs s) (2 ^ s) (image_paths s k rs) [] (image_tree rs s k) [] [] a h
    ∙ ap (λ (n : ℕ). 2 + n) (sym (children_up_to_lem s k rs a (omega arith))))

pub leaf_base_rule : LeafBaseRule
leaf_base_rule s k rs a t =
    let h : a < length (image_paths s k rs) = omega (arith, (node_number s k rs (suc a) t).1) in
    alone (λ ws. base_of (2 ^ s) ws (suc a) ≡ leaves_up_to s ws a) (image_nodes s k rs)
    (base_is (slots rs s) (2 ^ s) (image_paths s k rs) [] (image_tree rs s k) [] [] a h ∙ sym (leaves_up_to_lem s k rs a (omega arith)))

pub nodes_sound : NodesSound
nodes_sound s k rs a t =
    let n = node_number s k rs a t in
    subst (Sound s (image_nodes s k rs)) n.0
    (alone (λ ws. Sound s ws (suc (a - 1))) (image_nodes s k rs)
    (sound_is s (image_nodes s k rs ++ []) (suc (a - 1)) (stored_sound s k rs [] [] (a - 1) n.1)))

pub offset_first : OffsetFirst
offset_first w s rs a j c st ok t first t' e =
    let K = w / s in
    let nodes : List ℕ = image_nodes s K rs in
    let n = node_number s K rs a t in
    let small : bitmap_of nodes a < 2 ^ (2 ^ s) =
    subst (λ (b : ℕ). bitmap_of nodes b < 2 ^ (2 ^ s)) n.0
    (alone (λ ws. bitmap_of ws (suc (a - 1)) < 2 ^ (2 ^ s)) nodes (stored_small s K rs [] [] (a - 1) n.1)) in
    let z : zeros_before (2 ^ s) (bitmap_of nodes a) j ≡ 0 =
    zeros_before_counts (2 ^ s) (bitmap_of nodes a) j (omega (arith, first.in_node)) small
    ∙ slots_with_none (2 ^ s) (bitmap_of nodes a) 0 j (λ i l b. omega (arith, first.leaves_before i l)) in
    let r = child_rule w s rs a j st ok t first.in_node first.non_leaf_lem in
    let i : c ≡ child_at (2 ^ s) nodes a j = nodes_distinct w s rs c (child_at (2 ^ s) nodes a j) st ok t' r.0 (e ∙ sym r.1) in
    let p : 0 < s = stride_pos s st.stride in
    let apart : (c ≡ a → ⊥) =
    λ same. omega (arith, p, ap length (ap (path_of s K rs) (sym same) ∙ e), length_slot_bits s (path_of s K rs a) j) in
    (omega (arith, i, z, apart), omega (arith, i, z))
