-- A node's slots, one after the other: its bitmap, its children put among the nodes still to do, its ports. Assumes nothing.
use mathlib.Core.Path.{◌≡◌, refl, sym, ap, ap₂, ◌∙◌, subst}
use mathlib.Core.List.{List, [], ◌∷◌, ◌++◌}
use Prim.Native.Nat.{ℕ, zero, suc, ◌+◌, ◌-◌, ◌*◌, ◌^◌, ◌≤◌, ◌<◌}
use native.Mathlib.Omega.{arith}
use native.Mathlib.Nat.{add-zero, pow-suc, add-mul, mul_assoc, mul_comm}
use native.Mathlib.Numerals.{add-one}
use lib.ListN.{length, set, replicate, length-append}
use lib.Pow.{pow_mono}
use lib.Seq.{sets, length-sets}
use Rattle.lists.specs.Numbered.{list_of}
use Rattle.lists.specs.Flat.{flat}
use Rattle.image_rules.specs.Node.{node_size, node_start, store_nodes}
use Rattle.image_rules.specs.Breadth.{Slot, leaf, non_leaf, slot_children, slot_ports, leaf_bit, bitmap}
use Rattle.lists.proofs.Flat.{flat_append}
use Rattle.image_stretch.specs.declared.Stretch.{Stretch}
use Rattle.image_stretch.specs.declared.Filled.{Filled}
use Rattle.image_stretch.specs.Memory.{pending, filled, filled_by, filled_leaves}

-- stores one after the other, in two parts
pub sets_append : (l : List ℕ) (i : ℕ) (vs ws : List ℕ) → sets l i (vs ++ ws) ≡ sets (sets l i vs) (i + length vs) ws
sets_append l i [] ws = ap (λ (k : ℕ). sets l k ws) (sym (add-zero i))
sets_append l i (v ∷ vs) ws =
    let e : suc i + length vs ≡ i + suc (length vs) = omega arith in
    sets_append (set l i v) (suc i) vs ws ∙ ap (λ (k : ℕ). sets (sets (set l i v) (suc i) vs) k ws) e

pub length_pending : (xs : List Stretch) → length (flat pending xs) ≡ length xs * node_size
length_pending [] = refl
length_pending (x ∷ xs) = omega (arith, length_pending xs)

slots_next : (f : ℕ → Slot Stretch) (k j : ℕ) → 0 < k → list_of f k j ≡ f j ∷ list_of f (k - 1) (j + 1)
unfolding list_of
slots_next f zero j h = absurd (omega arith)
slots_next f (suc k) j h = let e : suc k - 1 ≡ k = omega arith in ap (λ (m : ℕ). f j ∷ list_of f m (j + 1)) (sym e)

slots_none : (f : ℕ → Slot Stretch) (k j : ℕ) → k ≡ 0 → list_of f k j ≡ []
unfolding list_of
slots_none f zero j h = refl
slots_none f (suc k) j h = absurd (omega arith)

-- What is still to be done at the slots `rest`, with the memory and the counts as they are, is what is to be done in all.
pub record Same (rest : List (Slot Stretch)) (nodes ports : List ℕ) (st : Filled) (all : List (Slot Stretch)) (nodes₀ ports₀ : List ℕ) (next base : ℕ) : Type 0 where
  pub queue : store_nodes nodes st.node.0 (flat pending (flat slot_children rest)) ≡ store_nodes nodes₀ next (flat pending (flat slot_children all))
  pub written : sets ports st.leaf.0 (flat slot_ports rest) ≡ sets ports₀ base (flat slot_ports all)
  pub queued : st.node.0 + length (flat slot_children rest) ≡ next + length (flat slot_children all)
  pub leaves : st.leaf.0 + length (flat slot_ports rest) ≡ base + length (flat slot_ports all)
  pub bits : st.bitmap * 2 ^ length rest + bitmap rest ≡ bitmap all

same_queue : (o : Slot Stretch) (rest : List (Slot Stretch)) (nodes : List ℕ) (n : ℕ) → 0 < n
    → store_nodes (store_nodes nodes n (flat pending (slot_children o))) (n + length (slot_children o)) (flat pending (flat slot_children rest))
    ≡ store_nodes nodes n (flat pending (flat slot_children (o ∷ rest)))
same_queue o rest nodes n h =
    let e : node_start (n + length (slot_children o)) ≡ node_start n + length (flat pending (slot_children o)) = omega (arith, length_pending (slot_children o)) in
    ap (λ (k : ℕ). sets (store_nodes nodes n (flat pending (slot_children o))) k (flat pending (flat slot_children rest))) e
    ∙ sym (sets_append nodes (node_start n) (flat pending (slot_children o)) (flat pending (flat slot_children rest)))
    ∙ ap (store_nodes nodes n) (sym (flat_append pending (slot_children o) (flat slot_children rest)))

same_more : (o : Slot Stretch) (rest : List (Slot Stretch)) (nodes ports : List ℕ) (st : Filled) (all : List (Slot Stretch)) (nodes₀ ports₀ : List ℕ) (next base : ℕ)
    → 0 < st.node.0 → Same (o ∷ rest) nodes ports st all nodes₀ ports₀ next base
    → Same rest (store_nodes nodes st.node.0 (flat pending (slot_children o))) (sets ports st.leaf.0 (slot_ports o)) (filled_by o st) all nodes₀ ports₀ next base
same_more o rest nodes ports st all nodes₀ ports₀ next base k h = record {
  queue = same_queue o rest nodes st.node.0 k ∙ h.queue;
  written = sym (sets_append ports st.leaf.0 (slot_ports o) (flat slot_ports rest)) ∙ h.written;
  queued = omega (arith, h.queued, length-append (slot_children o) (flat slot_children rest));
  leaves = omega (arith, h.leaves, length-append (slot_ports o) (flat slot_ports rest));
  bits = pushed ∙ h.bits;
}
  where
    pushed : (st.bitmap * 2 + leaf_bit o) * 2 ^ length rest + bitmap rest ≡ st.bitmap * 2 ^ suc (length rest) + (leaf_bit o * 2 ^ length rest + bitmap rest)
    pushed =
        let p = 2 ^ length rest in
        let e : 2 ^ suc (length rest) ≡ p * 2 = pow-suc 2 (length rest) in
        let f : (st.bitmap * 2 + leaf_bit o) * p ≡ st.bitmap * 2 * p + leaf_bit o * p = add-mul (st.bitmap * 2) (leaf_bit o) p in
        let g : st.bitmap * 2 * p ≡ st.bitmap * (p * 2) = mul_assoc st.bitmap 2 p ∙ ap (λ (k : ℕ). st.bitmap * k) (mul_comm 2 p) in
        let e' : st.bitmap * 2 ^ suc (length rest) ≡ st.bitmap * (p * 2) = ap (λ (k : ℕ). st.bitmap * k) e in
        omega (arith, f, g, e')

leaf_bit_le : (o : Slot Stretch) → leaf_bit o ≤ 1
leaf_bit_le (leaf p) = omega arith
leaf_bit_le (non_leaf y) = omega arith

-- on the way, at slot j of m
pub record SlotsDone (f : ℕ → Slot Stretch) (m : ℕ) (nodes₀ ports₀ : List ℕ) (next base : ℕ) (nodes ports : List ℕ) (j : ℕ) (st : Filled) : Type 0 where
  pub passed : j ≤ m
  pub numbered : 0 < st.node.0
  pub nodes_lent : length nodes ≡ length nodes₀
  pub ports_lent : length ports ≡ length ports₀
  pub small : st.bitmap < 2 ^ j
  pub same : Same (list_of f (m - j) j) nodes ports st (list_of f m 0) nodes₀ ports₀ next base

module _ (f : ℕ → Slot Stretch) (m : ℕ) (nodes₀ ports₀ : List ℕ) (next base : ℕ) where
  abbrev all : List (Slot Stretch)
  all = list_of f m 0

  pub slot_loop_none : 0 < next → SlotsDone f m nodes₀ ports₀ next base nodes₀ ports₀ 0 (filled 0 next base)
  slot_loop_none h =
      let e : m - 0 ≡ m = omega arith in
      record {
        passed = omega arith;
        numbered = h;
        nodes_lent = refl;
        ports_lent = refl;
        small = omega arith;
        same = rw e record { queue = refl; written = refl; queued = refl; leaves = refl; bits = omega arith };
      }

  module _ (nodes ports : List ℕ) (j : ℕ) (st : Filled) (l : SlotsDone f m nodes₀ ports₀ next base nodes ports j st) where
    -- the slots left, slot j first, as the code has it
    here : j < m → (o : Slot Stretch) → o ≡ f j → Same (o ∷ list_of f (m - (j + 1)) (j + 1)) nodes ports st all nodes₀ ports₀ next base
    here h o e =
        let k : m - j - 1 ≡ m - (j + 1) = omega arith in
        subst (λ (r : List (Slot Stretch)). Same r nodes ports st all nodes₀ ports₀ next base)
        (slots_next f (m - j) j (omega arith) ∙ ap₂ (λ (u : Slot Stretch) (i : ℕ). u ∷ list_of f i (j + 1)) (sym e) k) l.same

    pub slot_loop_more : j < m → (o : Slot Stretch) → o ≡ f j → {nodes' ports' : List ℕ} {st' : Filled} → st' ≡ filled_by o st
        → nodes' ≡ store_nodes nodes st.node.0 (flat pending (slot_children o)) → ports' ≡ sets ports st.leaf.0 (slot_ports o)
        → SlotsDone f m nodes₀ ports₀ next base nodes' ports' (j + 1) st'
    slot_loop_more h o e {nodes'} {ports'} {st'} a b c = record {
      passed = omega arith;
      numbered = rw a (omega (arith, l.numbered));
      nodes_lent = ap length b ∙ length-sets nodes (node_start st.node.0) (flat pending (slot_children o)) ∙ l.nodes_lent;
      ports_lent = ap length c ∙ length-sets ports st.leaf.0 (slot_ports o) ∙ l.ports_lent;
      small = rw a low;
      same = rw (a, b, c) (same_more o (list_of f (m - (j + 1)) (j + 1)) nodes ports st all nodes₀ ports₀ next base l.numbered (here h o e));
    }
      where
        low : st.bitmap * 2 + leaf_bit o < 2 ^ (j + 1)
        low = rw (add-one j, pow-suc 2 j) (omega (arith, leaf_bit_le o, l.small))

    -- the room that slot j needs is there
    pub slot_loop_room : j < m → m ≤ 16 → (o : Slot Stretch) → o ≡ f j
        → node_start (next + length (flat slot_children all)) ≤ length nodes₀ → base + length (flat slot_ports all) ≤ length ports₀
        → (st.bitmap < 2 ^ 31) × (node_start (st.node.0 + length (slot_children o)) ≤ length nodes) × (st.leaf.0 + length (slot_ports o) ≤ length ports)
    slot_loop_room h few o e rn rp =
        let g = here h o e in
        let p : 2 ^ j ≤ 2 ^ 31 = pow_mono {i = j} {j = 31} (omega arith) in (
          omega (arith, p, l.small),
          omega (arith, g.queued, rn, l.nodes_lent, length-append (slot_children o) (flat slot_children (list_of f (m - (j + 1)) (j + 1)))),
          omega (arith, g.leaves, rp, l.ports_lent, length-append (slot_ports o) (flat slot_ports (list_of f (m - (j + 1)) (j + 1)))),
        )

    pub slot_loop_all : m ≤ j
        → (st ≡ filled (bitmap all) (next + length (flat slot_children all)) (base + length (flat slot_ports all)))
        × (nodes ≡ store_nodes nodes₀ next (flat pending (flat slot_children all))) × (ports ≡ sets ports₀ base (flat slot_ports all))
    slot_loop_all h =
        let g = subst (λ (r : List (Slot Stretch)). Same r nodes ports st all nodes₀ ports₀ next base) (slots_none f (m - j) j (omega arith)) l.same in
        let b : st.bitmap ≡ bitmap all = omega (arith, g.bits) in
        let q : st.node.0 ≡ next + length (flat slot_children all) = omega (arith, g.queued) in
        let r : st.leaf.0 ≡ base + length (flat slot_ports all) = omega (arith, g.leaves) in
        ((λ i. record { bitmap = b i; node = record { 0 = q i }; leaf = record { 0 = r i } }), g.queue, g.written)

  -- some slots at once that are leaves with one port
  pub slot_loop_leaves : (p k : ℕ) (nodes ports : List ℕ) (j : ℕ) (st : Filled) → SlotsDone f m nodes₀ ports₀ next base nodes ports j st → j + k ≤ m
      → ((i : ℕ) → j ≤ i → i < j + k → f i ≡ leaf p) → (j' : ℕ) → j' ≡ j + k → (ports' : List ℕ) → ports' ≡ sets ports st.leaf.0 (replicate k p)
      → (st' : Filled) → st' ≡ filled_leaves k st → SlotsDone f m nodes₀ ports₀ next base nodes ports' j' st'
  slot_loop_leaves p zero nodes ports j st l h g j' a ports' b st' c =
      let e : j' ≡ j = omega arith in
      let z : (st.bitmap + 1) * 1 - 1 ≡ st.bitmap = omega arith in
      let q : filled_leaves 0 st ≡ st = (λ i. record { bitmap = z i; node = st.node; leaf = record { 0 = add-zero st.leaf.0 i } }) in
      rw (e, b, c ∙ q) l
  slot_loop_leaves p (suc k) nodes ports j st l h g j' a ports' b st' c =
      let o : leaf p ≡ f j = sym (g j (omega arith) (omega arith)) in
      let one : suc st.leaf.0 ≡ st.leaf.0 + 1 = omega arith in
      let e2 : st.node.0 ≡ st.node.0 + 0 = omega arith in
      let e3 : st.leaf.0 + suc k ≡ st.leaf.0 + 1 + k = omega arith in
      let q : filled_leaves (suc k) st ≡ filled_leaves k (filled_by (leaf p) st) = (λ i. record { bitmap = bits_suc i; node = record { 0 = e2 i }; leaf = record { 0 = e3 i } }) in
      slot_loop_leaves p k nodes (set ports st.leaf.0 p) (j + 1) (filled_by (leaf p) st)
      (slot_loop_more nodes ports j st l (omega arith) (leaf p) o refl refl refl) (omega arith) (λ i x y. g i (omega arith) (omega arith)) j' (omega arith)
      ports' (b ∙ ap (λ (n : ℕ). sets (set ports st.leaf.0 p) n (replicate k p)) one) st' (c ∙ q)
    where
      bits_suc : (st.bitmap + 1) * 2 ^ suc k - 1 ≡ (st.bitmap * 2 + 1 + 1) * 2 ^ k - 1
      bits_suc =
          let e : st.bitmap * 2 + 1 + 1 ≡ (st.bitmap + 1) * 2 = omega arith in
          ap (λ (n : ℕ). n - 1)
          (ap (λ (n : ℕ). (st.bitmap + 1) * n) (pow-suc 2 k ∙ mul_comm (2 ^ k) 2) ∙ sym (mul_assoc (st.bitmap + 1) 2 (2 ^ k)) ∙ ap (λ (n : ℕ). n * 2 ^ k) (sym e))

  pub slot_loop_leaves_room : (p k : ℕ) (nodes ports : List ℕ) (j : ℕ) (st : Filled) → SlotsDone f m nodes₀ ports₀ next base nodes ports j st → j + k ≤ m
      → ((i : ℕ) → j ≤ i → i < j + k → f i ≡ leaf p) → base + length (flat slot_ports all) ≤ length ports₀ → st.leaf.0 + k ≤ length ports
  slot_loop_leaves_room p k nodes ports j st l h g r =
      let q = slot_loop_leaves p k nodes ports j st l h g (j + k) refl (sets ports st.leaf.0 (replicate k p)) refl (filled_leaves k st) refl in
      omega (arith, q.same.leaves, r, l.ports_lent)
