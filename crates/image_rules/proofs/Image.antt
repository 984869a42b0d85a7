-- Proves what the image is there for. Assumes nothing.
use mathlib.Core.Path.{◌≡◌, refl, sym, ap, ◌∙◌, subst}
use mathlib.Core.Logic.{⊎_elim}
use mathlib.Core.Bool.{Bool, true, false, cond, true≢false}
use mathlib.Core.List.{List, [], ◌++◌, append-nil}
use Prim.Native.Nat.{ℕ, zero, suc, ◌+◌, ◌-◌, ◌*◌, ◌/◌, ◌^◌, ◌≤◌, ◌<◌}
use native.Mathlib.Omega.{arith}
use native.Mathlib.Nat.{mul-zero, div-add-mod', mul_comm, mul-suc}
use lib.Dec.{ltb, leb}
use lib.ListN.{length, get_or, drop}
use lib.Pow.{pow_pos}
use borrow.Author.Tests.{ltb-true, leb-true}
use Rattle.bits.specs.Bits.{Bits, bits}
use Rattle.bits.specs.Bitmap.{slot_bit}
use Rattle.lists.proofs.Tests.{both}
use Rattle.trie.specs.Routes.{Route}
use Rattle.trie.specs.Scan.{scan_list}
use Rattle.trie.proofs.Listed.{scan_list_is_scan}
use Rattle.trie.proofs.Routes.{none_or_some}
use Rattle.image_rules.specs.Node.{node_count, is_node, bitmap_of}
use Rattle.image_rules.specs.Breadth.{leaf, non_leaf, leaf_bit, children}
use Rattle.image_rules.specs.Image.{some_longer, slot_of, slot_bits, slots, image_paths, image_nodes, image_ports, passed, Imaged, path_of}
use Rattle.image_rules.specs.Lookup.{leaf_of, child_at, is_stride, lookup_words, Strided}
use Rattle.refusals.specs.Refusals.{found}
use Rattle.image_rules.specs.Theorems.{LookupIsScan, Numbered, PortsCount, SlotRule, LeafRule, ChildRule}
use Rattle.image_rules.proofs.Counts.{ports_and_children}
use Rattle.image_rules.proofs.Longer.{some-longer→, some_longer_lem, scan_more}
use Rattle.image_rules.proofs.Words.{length_words, Numbers}
use Rattle.image_rules.proofs.Slots.{length_slots, Deep, paths_numbered, stored_node, stored_bit, leaf_port_lem, child_stored}
use Rattle.image_rules.proofs.Descent.{walked_root}

-- a stride takes off bits, and whole strides make the width
pub stride_pos : (s : ℕ) → is_stride s ≡ true → 0 < s
stride_pos zero t = absurd (true≢false (sym t))
stride_pos (suc s) t = omega arith

module _ {w s : ℕ} (st : Strided w s) where
  pub strides_make : s * (w / s) ≡ w
  strides_make = mul_comm s (w / s) ∙ omega (arith, div-add-mod' w s, st.whole)

  pub levels_pos : 0 < w / s
  levels_pos =
      ⊎_elim
      (λ (z : w / s ≡ 0). absurd (omega (arith, st.some, strides_make, ap (λ (n : ℕ). s * n) z, mul-zero s)))
      (λ (h : 0 < w / s). h)
      (none_or_some (w / s))

  pub deep_root : (rs : List Route) (ok : Imaged w rs) → Deep rs s w ok.short (w / s) []
  deep_root rs ok = (omega (arith, strides_make), levels_pos)

pub lookup_is_scan : LookupIsScan
unfolding lookup_words
lookup_is_scan w s rs nodes ports a st ok =
    let K = w / s in
    let e = strides_make st in
    rw st.stride
    (walked_root w s K rs (drop (length (image_nodes s K rs)) nodes) (drop (length (image_ports s K rs)) ports) a ok.short ok.low (deep_root st rs ok)
    ∙ ap (λ (n : ℕ). found (scan_list rs (bits n a)) (passed rs s K [] (bits n a) + 1)) e
    ∙ ap (λ (p : ℕ). found p (passed rs s K [] (bits w a) + 1)) (scan_list_is_scan rs (bits w a) ok.distinct ok.ported))

pub numbered : Numbered
numbered w s rs st ok = paths_numbered rs s w ok.short (w / s) (deep_root st rs ok)

pub ports_count : PortsCount
ports_count w s rs st ok =
    let qs = image_paths s (w / s) rs in
    let c = children (slots rs s) in
    let p : 0 < 2 ^ s = pow_pos s in
    let m : length qs * 2 ^ s ≡ length qs * (2 ^ s - 1) + length qs = mul_pred (length qs) (2 ^ s) p in (
      length_words (slots rs s) 1 2 qs,
      omega (arith, ports_and_children (slots rs s) (2 ^ s) (length_slots rs s) qs, ap length (numbered w s rs st ok), m),
    )
  where
    mul_pred : (m n : ℕ) → 0 < n → m * n ≡ m * (n - 1) + m
    mul_pred m zero h = absurd (omega arith)
    mul_pred m (suc n) h = let e : suc n - 1 ≡ n = omega arith in rw e (mul-suc m n)

-- a stored node, by its number less 1
pub node_number : (s k : ℕ) (rs : List Route) (a : ℕ) → is_node (image_nodes s k rs) a ≡ true
    → (suc (a - 1) ≡ a) × (a - 1 < length (image_paths s k rs))
node_number s k rs a t =
    let b = both (ltb 0 a) (leb a (node_count (image_nodes s k rs))) t in
    let some : 0 < a = ltb-true 0 a b.0 in
    let most : a ≤ node_count (image_nodes s k rs) = leb-true a (node_count (image_nodes s k rs)) b.1 in
    (omega arith, omega (arith, length_words (slots rs s) 1 2 (image_paths s k rs)))

-- the words of the image alone, for any fact of the words lent
pub alone : (P : List ℕ → Type 0) (words : List ℕ) → P (words ++ []) → P words
alone P words h = subst P (append-nil words) h

module _ (s k : ℕ) (rs : List Route) (a j : ℕ) (t : is_node (image_nodes s k rs) a ≡ true) (l : j < 2 ^ s) where
  abbrev nodes : List ℕ
  nodes = image_nodes s k rs

  abbrev slot : Bits
  slot = slot_bits s (path_of s k rs a) j

  abbrev bit : ℕ
  bit = slot_bit (2 ^ s) (bitmap_of nodes a) j

  stored : a - 1 < length (image_paths s k rs)
  stored = (node_number s k rs a t).1

  -- a fact of node number suc (a - 1) is one of node a
  here : (P : List ℕ → ℕ → Type 0) → P (nodes ++ []) (suc (a - 1)) → P nodes a
  here P h = alone (λ ws. P ws a) nodes (subst (P (nodes ++ [])) (node_number s k rs a t).0 h)

  bit_is : bit ≡ leaf_bit (slot_of rs slot)
  bit_is = here (λ ws b. slot_bit (2 ^ s) (bitmap_of ws b) j ≡ leaf_bit (slot_of rs slot)) (stored_bit s k rs [] [] (a - 1) stored j l)

  bit_zero : bit ≡ 0 → some_longer rs slot ≡ true
  bit_zero z = by (some_longer rs slot) refl
    where
      by : (b : Bool) → some_longer rs slot ≡ b → some_longer rs slot ≡ true
      by true e = e
      by false e = absurd (omega (arith, z, bit_is, ap (λ (b : Bool). leaf_bit (cond b (non_leaf slot) (leaf (scan_list rs slot)))) e))

  bit_one : bit ≡ 1 → some_longer rs slot ≡ false
  bit_one o = by (some_longer rs slot) refl
    where
      by : (b : Bool) → some_longer rs slot ≡ b → some_longer rs slot ≡ false
      by true e = absurd (omega (arith, o, bit_is, ap (λ (b : Bool). leaf_bit (cond b (non_leaf slot) (leaf (scan_list rs slot)))) e))
      by false e = e

pub slot_rule : SlotRule
slot_rule s k rs a j t l =
    let q = slot_bits s (path_of s k rs a) j in (
      λ z. some-longer→ rs q (bit_zero s k rs a j t l z),
      λ x. bit_is s k rs a j t l ∙ ap (λ (b : Bool). leaf_bit (cond b (non_leaf q) (leaf (scan_list rs q)))) (some_longer_lem rs q x),
    )

pub leaf_rule : LeafRule
leaf_rule w s k rs a j rest ok t l o =
    let q = slot_bits s (path_of s k rs a) j in
    let f = bit_one s k rs a j t l o in
    alone (λ ps. get_or ps (leaf_of (2 ^ s) (image_nodes s k rs) a j) 0 ≡ scan_list rs q) (image_ports s k rs)
    (here s k rs a j t l (λ ws b. get_or (image_ports s k rs ++ []) (leaf_of (2 ^ s) ws b j) 0 ≡ scan_list rs q)
    (leaf_port_lem s k rs [] [] (a - 1) (stored s k rs a j t l) j l f))
    ∙ sym (scan_more rs q rest f)
    ∙ scan_list_is_scan rs (q ++ rest) ok.distinct ok.ported

pub child_rule : ChildRule
child_rule w s rs a j st ok t l z =
    let K = w / s in
    let q = slot_bits s (path_of s K rs a) j in
    let d = deep_root st rs ok in
    let i = stored s K rs a j t l in
    let c : Numbers (image_paths s K rs) [] (child_at (2 ^ s) (image_nodes s K rs) a j) q =
    here s K rs a j t l (λ ws b. Numbers (image_paths s K rs) [] (child_at (2 ^ s) ws b j) q)
    (child_stored s K rs [] [] (a - 1) i j l (bit_zero s K rs a j t l z)
    (paths_numbered rs s w ok.short K d)) in
    let e : child_at (2 ^ s) (image_nodes s K rs) a j - 1 ≡ c.at = omega (arith, c.number) in (
      subst (λ (b : ℕ). is_node (image_nodes s K rs) b ≡ true) (sym c.number)
          (alone (λ ws. is_node ws (suc c.at) ≡ true) (image_nodes s K rs) (stored_node s K rs [] [] c.at c.stored)),
      ap (λ (n : ℕ). get_or (image_paths s K rs) n []) e ∙ c.is,
    )
