-- The walk down an image: it gives the plain scan's port, and one node more than the non-leaf slots passed. Assumes nothing.
use mathlib.Core.Path.{◌≡◌, sym, ap, ap₂, ◌∙◌, subst}
use mathlib.Core.Logic.{⊎_elim}
use mathlib.Core.Bool.{Bool, true, false, cond}
use mathlib.Core.List.{List, [], ◌++◌, Memᴰ, append_assoc}
use Prim.Native.Nat.{ℕ, zero, suc, ◌+◌, ◌*◌, ◌/◌, ◌^◌, ◌≤◌, ◌<◌}
use native.Mathlib.Omega.{arith}
use native.Mathlib.Nat.{mod-lt, zero-add}
use lib.ListN.{length, get_or}
use lib.Pow.{pow_pos}
use Rattle.bits.specs.Bits.{Bits, bits}
use Rattle.lists.proofs.Tests.{way}
use Rattle.trie.specs.Routes.{Route}
use Rattle.trie.specs.Scan.{scan_list}
use Rattle.refusals.specs.Refusals.{found}
use Rattle.routes.specs.Bounds.{last_port}
use Rattle.image_rules.specs.Image.{some_longer, slot_bits, image_paths, image_nodes, image_ports, passed}
use Rattle.image_rules.specs.Lookup.{address_slot, leaf_of, walk}
use Rattle.bits.proofs.Digits.{bits_level, take_level, drop_level}
use Rattle.image_rules.proofs.Longer.{scan_more, scan_le}
use Rattle.image_rules.proofs.Walk.{leaf_at_is, walk_leaf, walk_child}
use Rattle.image_rules.proofs.Slots.{Deep, deep_slot, paths_numbered, stored_node, stored_sound, leaf_bit_lem, leaf_number_lt, leaf_port_lem, child_bit, child_stored}

-- the walk down an image
module _ (w s K : ℕ) (rs : List Route) (more extra : List ℕ) (addr : ℕ)
    (short : (r : Route) → Memᴰ r rs → length r.prefix ≤ w) (low : (r : Route) → Memᴰ r rs → r.port ≤ last_port)
    (d : Deep rs s w short K []) where
  abbrev Walked : ℕ → Type 0
  Walked k =
      (i reads : ℕ) → i < length (image_paths s K rs) → Deep rs s w short k (get_or (image_paths s K rs) i [])
      → walk s (image_nodes s K rs ++ more) (image_ports s K rs ++ extra) addr k (suc i) reads
      ≡ found (scan_list rs (get_or (image_paths s K rs) i [] ++ bits (s * k) addr))
      (reads + (passed rs s k (get_or (image_paths s K rs) i []) (bits (s * k) addr) + 1))

  module _ (k i reads : ℕ) (h : i < length (image_paths s K rs)) where
    abbrev at : Bits
    at = get_or (image_paths s K rs) i []

    abbrev j : ℕ
    j = address_slot s addr k

    abbrev slot : Bits
    slot = slot_bits s at j

    lj : j < 2 ^ s
    lj = mod-lt (addr / 2 ^ (s * k)) (pow_pos s)

    -- the rest of the address from the node on, by way of its slot
    address : at ++ bits (s * suc k) addr ≡ slot ++ bits (s * k) addr
    address =
        ap (λ (q : Bits). at ++ q) (bits_level s k addr) ∙ sym (append_assoc at (bits s j) (bits (s * k) addr))

    passed_turn : passed rs s (suc k) at (bits (s * suc k) addr) ≡ cond (some_longer rs slot) (passed rs s k slot (bits (s * k) addr) + 1) 0
    unfolding passed
    passed_turn = rw (take_level s k addr, drop_level s k addr)

    leaf_turn : some_longer rs slot ≡ false
        → walk s (image_nodes s K rs ++ more) (image_ports s K rs ++ extra) addr (suc k) (suc i) reads
        ≡ found (scan_list rs (at ++ bits (s * suc k) addr)) (reads + (passed rs s (suc k) at (bits (s * suc k) addr) + 1))
    leaf_turn t =
        walk_leaf s (image_nodes s K rs ++ more) (image_ports s K rs ++ extra) addr k (suc i) reads
        (stored_node s K rs more extra i h) (stored_sound s K rs more extra i h) (leaf_bit_lem s K rs more extra i h j lj t)
        ∙ leaf_at_is (image_ports s K rs ++ extra) (leaf_of (2 ^ s) (image_nodes s K rs ++ more) (suc i) j) (scan_list rs slot) (reads + 1)
        (leaf_number_lt s K rs more extra i h j lj t) (leaf_port_lem s K rs more extra i h j lj t) (scan_le rs slot last_port low)
        ∙ ap₂ found
        (sym (ap (scan_list rs) address ∙ scan_more rs slot (bits (s * k) addr) t))
        (let p : passed rs s (suc k) at (bits (s * suc k) addr) ≡ 0 = passed_turn ∙ ap (λ (b : Bool). cond b (passed rs s k slot (bits (s * k) addr) + 1) 0) t in
        omega arith)

    child_turn : some_longer rs slot ≡ true → Deep rs s w short (suc k) at → Walked k
        → walk s (image_nodes s K rs ++ more) (image_ports s K rs ++ extra) addr (suc k) (suc i) reads
        ≡ found (scan_list rs (at ++ bits (s * suc k) addr)) (reads + (passed rs s (suc k) at (bits (s * suc k) addr) + 1))
    child_turn t e ih =
        let c = child_stored s K rs more extra i h j lj t (paths_numbered rs s w short K d) in
        let x = c.is in
        walk_child s (image_nodes s K rs ++ more) (image_ports s K rs ++ extra) addr k (suc i) reads
        (stored_node s K rs more extra i h) (stored_sound s K rs more extra i h) (child_bit s K rs more extra i h j lj t)
        ∙ ap (λ (a : ℕ). walk s (image_nodes s K rs ++ more) (image_ports s K rs ++ extra) addr k a (reads + 1)) c.number
        ∙ ih c.at (reads + 1) c.stored (subst (Deep rs s w short k) (sym x) (deep_slot rs s w short k at j e t))
        ∙ ap₂ found
        (ap (λ (q : Bits). scan_list rs (q ++ bits (s * k) addr)) x ∙ sym (ap (scan_list rs) address))
        (let p : passed rs s (suc k) at (bits (s * suc k) addr) ≡ passed rs s k slot (bits (s * k) addr) + 1 =
        passed_turn ∙ ap (λ (b : Bool). cond b (passed rs s k slot (bits (s * k) addr) + 1) 0) t in
        let q : passed rs s k (get_or (image_paths s K rs) c.at []) (bits (s * k) addr) ≡ passed rs s k slot (bits (s * k) addr) =
        ap (λ (z : Bits). passed rs s k z (bits (s * k) addr)) x in
        omega arith)

  walked : (k : ℕ) → Walked k
  walked zero i reads h e = absurd (omega (arith, e.1))
  walked (suc k) i reads h e =
      ⊎_elim
      (λ (t : some_longer rs (slot k i reads h) ≡ true). child_turn k i reads h t e (walked k))
      (λ (t : some_longer rs (slot k i reads h) ≡ false). leaf_turn k i reads h t)
      (way (some_longer rs (slot k i reads h)))

  -- from node 1
  pub walked_root : walk s (image_nodes s K rs ++ more) (image_ports s K rs ++ extra) addr K 1 0
      ≡ found (scan_list rs (bits (s * K) addr)) (passed rs s K [] (bits (s * K) addr) + 1)
  walked_root =
      let is = paths_numbered rs s w short K d in
      let e : get_or (image_paths s K rs) 0 [] ≡ [] = ap (λ (l : List Bits). get_or l 0 []) is in
      walked K 0 0 (omega (arith, ap length is)) (subst (Deep rs s w short K) (sym e) d)
      ∙ ap (λ (q : Bits). found (scan_list rs (q ++ bits (s * K) addr)) (0 + (passed rs s K q (bits (s * K) addr) + 1))) e
      ∙ ap (λ (n : ℕ). found (scan_list rs (bits (s * K) addr)) n) (zero-add (passed rs s K [] (bits (s * K) addr) + 1))
