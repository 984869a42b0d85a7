-- The tree of stretches and the tree of bits are alike, slot by slot, so they have the same words and ports. Assumes nothing.
use mathlib.Core.Path.{◌≡◌, sym, ap, ap₂, ◌∙◌, subst}
use mathlib.Core.Bool.{Bool, true, false, cond}
use mathlib.Core.Logic.{◌⊎◌, inl, inr, ⊎_elim}
use mathlib.Core.List.{◌++◌, Memᴰ}
use Prim.Native.Nat.{ℕ, zero, suc, ◌+◌, ◌-◌, ◌*◌, ◌/◌, ◌%◌, ◌^◌, ◌≤◌, ◌<◌}
use native.Mathlib.Omega.{arith}
use native.Mathlib.Nat.{mul-add-div_right, div-eq_of_lt, add-zero}
use lib.Arith.{digits_mod}
use lib.Dec.{ltb}
use lib.ListN.{length, take}
use lib.Seq.{take_at}
use lib.Pow.{pow_pos}
use borrow.Author.Tests.{lt-ltb, eq-eqb, eqb-true, ltb-true, ltb-false}
use Rattle.bits.specs.Bits.{Bits, bits, prefix_bits, begins}
use Rattle.bits.specs.Prefix.{span, head, matches}
use Rattle.lists.proofs.Tests.{way, both, test_eq, test_no, lt_or_le}
use Rattle.bits.proofs.Bits.{length_bits, length_take_bits, matches_begins, bits_add, bits_mod, begins_take}
use Rattle.bits.proofs.Prefix.{span_pos, head_rest, first_valid, matches→within, matches_refl, start, head_within, head_start, start_lt}
use Rattle.bits.proofs.Order.{zeros_longer}
use Rattle.trie.specs.Routes.{Route as BitRoute}
use Rattle.trie.specs.Scan.{scan_list}
use Rattle.trie.proofs.Listed.{scan_list_is_scan}
use Rattle.routes.specs.Routes.{bit_route, ValidList}
use Rattle.lists.specs.Numbered.{list_of}
use Rattle.routes.specs.Scan.{route_matches, last_match}
use Rattle.routes.specs.declared.Route.{Route}
use Rattle.lists.proofs.Numbered.{mem_list_of, map_list_of}
use Rattle.routes.proofs.Rising.{before}
use Rattle.routes.proofs.Scan.{scan_is_last}
use Rattle.routes.proofs.Held.{scan_is_held}
use Rattle.image_rules.specs.Image.{some_longer, Longer, slot_bits, routes_of}
use Rattle.image_rules.proofs.Longer.{some_longer_lem, some-longer→, scan_more}
use Rattle.image_rules.proofs.Listed.{valid_imaged}
use Rattle.image_stretch.specs.declared.Stretch.{Stretch}
use Rattle.image_stretch.specs.Stretches.{goes_on, leaf_port}
use Rattle.image_stretch.proofs.FirstAndLast.{last_match_none, carried_is}
use Rattle.image_stretch.proofs.Places.{Place}

-- bits and numbers

pub path_bits : (w d h : ℕ) → d ≤ w → bits w (start w d h) ≡ bits d h ++ bits (w - d) (start w d h)
path_bits w d h k =
    let e : w ≡ d + (w - d) = omega arith in
    ap (λ (m : ℕ). bits m (start w d h)) e ∙ bits_add d (w - d) (start w d h)
    ∙ ap (λ (x : ℕ). bits d x ++ bits (w - d) (start w d h)) (head_start w d h)

prefix_bits_lem : (w d h : ℕ) → d ≤ w → prefix_bits w (start w d h) d ≡ bits d h
prefix_bits_lem w d h k = ap (take d) (path_bits w d h k) ∙ take_at (bits d h) (bits (w - d) (start w d h)) d (length_bits d h)

-- a prefix of l bits or more begins with the l bits that write h
begins_head : (w d h v l : ℕ) → d ≤ l → l ≤ w → h < 2 ^ d → v < 2 ^ w
    → begins (bits d h) (prefix_bits w v l) ≡ matches w (start w d h) d v
begins_head w d h v l k m p q =
    begins_take (bits d h) (bits w v) l (rw (length_bits d h) k)
    ∙ ap (λ (z : Bits). begins z (bits w v)) (sym (prefix_bits_lem w d h (omega arith)))
    ∙ sym (matches_begins w (start w d h) d v (omega arith) (omega (arith, start_lt w d h (omega arith) p, span_pos w d)) q)

-- slot j's bits are its node's and then those of j
pub slot_bits_is : (s d h j : ℕ) → j < 2 ^ s → slot_bits s (bits d h) j ≡ bits (d + s) (h * 2 ^ s + j)
slot_bits_is s d h j l =
    let e : (h * 2 ^ s + j) / 2 ^ s ≡ h = mul-add-div_right (pow_pos s) h j ∙ ap (λ (m : ℕ). h + m) (div-eq_of_lt l) ∙ add-zero h in
    let f : (h * 2 ^ s + j) % 2 ^ s ≡ j = digits_mod h l in
    sym
    (bits_add d s (h * 2 ^ s + j)
    ∙ ap₂ (λ (a b : Bits). a ++ b) (ap (bits d) e)
    (sym (bits_mod 0 s (h * 2 ^ s + j))
    ∙ ap (bits s) (ap (λ (m : ℕ). (h * 2 ^ s + j) % 2 ^ m) z ∙ f)))
  where
    z : 0 + s ≡ s
    z = omega arith

list_of_mem : {X : Type 0} (R : ℕ → X) (k i m : ℕ) → i ≤ m → m < i + k → Memᴰ (R m) (list_of R k i)
unfolding list_of
list_of_mem R zero i m h l = absurd (omega arith)
list_of_mem R (suc k) i m h l =
    ⊎_elim
    (λ (p : i < m). Memᴰ.tail (list_of_mem R k (i + 1) m (omega arith) (omega arith)))
    (λ (p : m ≤ i). let z : m ≡ i = omega arith in Memᴰ.head (ap R z))
    (lt_or_le i m)

-- a place of a valid list
module _ (w : ℕ) (R : ℕ → Route) (n : ℕ) (ok : ValidList w R n) (y : Stretch) (h : ℕ) (p : Place w R n h y) where
  abbrev at : ℕ
  at = start w y.depth h

  abbrev path : Bits
  path = bits y.depth h

  at_lt : at < 2 ^ w
  at_lt = omega (arith, start_lt w y.depth h p.deep p.high, span_pos w y.depth)

  -- a route in the place that is not longer than the place's bits is the place's own prefix
  pub own_value : (m : ℕ) → y.lo ≤ m → m < y.hi → (R m).len ≤ y.depth → (R m).value ≡ at
  own_value m a b k =
      let v = (ok.each m (omega (arith, p.most))).prefix in
      let z = zeros_longer w (R m).value (R m).len y.depth k p.deep v.zeros in
      let e : head w y.depth (R m).value * span w y.depth ≡ at = ap (λ (g : ℕ). g * span w y.depth) (p.inside m a b) in
      omega (arith, head_rest w y.depth (R m).value, z, e)

  -- if any route in the place is longer than its bits, the last one is
  pub last_longer : (i : ℕ) → y.lo ≤ i → i < y.hi → y.depth < (R i).len → y.depth < (R (y.hi - 1)).len
  last_longer i a b k = ⊎_elim (λ (q : y.depth < (R (y.hi - 1)).len). q) none (lt_or_le y.depth (R (y.hi - 1)).len)
    where
      none : (R (y.hi - 1)).len ≤ y.depth → y.depth < (R (y.hi - 1)).len
      none q = ⊎_elim far near (lt_or_le i (y.hi - 1))
        where
          g : (at ≤ (R i).value) × ((R i).value < at + span w y.depth)
          g = head_within w y.depth (R i).value h (p.inside i a b)

          e : (R (y.hi - 1)).value ≡ at
          e = own_value (y.hi - 1) (omega arith) (omega arith) q

          far : i < y.hi - 1 → y.depth < (R (y.hi - 1)).len
          far u =
              absurd (⊎_elim
              (λ (z : (R i).value < (R (y.hi - 1)).value). omega (arith, g.0, e))
              (λ (z : ((R i).value ≡ (R (y.hi - 1)).value) × ((R i).len < (R (y.hi - 1)).len)). omega (arith, z.1))
              (before w R n ok i (y.hi - 1) u (omega (arith, p.most))))

          near : y.hi - 1 ≤ i → y.depth < (R (y.hi - 1)).len
          near u = let z : i ≡ y.hi - 1 = omega arith in omega (arith, ap (λ (m : ℕ). (R m).len) z)

  -- the test of the last route is the rule's
  goes-on→longer : goes_on R y ≡ true → Longer (routes_of w R n) path
  goes-on→longer t =
      let b = both (ltb y.lo y.hi) (ltb y.depth (R (y.hi - 1)).len) t in
      let k : y.lo < y.hi = ltb-true y.lo y.hi b.0 in
      let l : y.depth < (R (y.hi - 1)).len = ltb-true y.depth (R (y.hi - 1)).len b.1 in
      let m = y.hi - 1 in
      let v = (ok.each m (omega (arith, p.most))).prefix in (
        bit_route w (R m),
        subst (Memᴰ (bit_route w (R m))) (sym (map_list_of (bit_route w) R n 0))
            (list_of_mem (λ i. bit_route w (R i)) n 0 m (omega arith) (omega (arith, p.most))),
        begins_head w y.depth h (R m).value (R m).len (omega arith) v.short p.high v.fits
            ∙ eq-eqb (head w y.depth (R m).value) (head w y.depth at) (p.inside m (omega arith) (omega arith) ∙ sym (head_start w y.depth h)),
        omega (arith, length_bits y.depth h, length_take_bits (R m).len w (R m).value v.short),
      )

  longer_in : (i : ℕ) → i < n → y.depth < (R i).len → head w y.depth (R i).value ≡ h → (y.lo ≤ i) × (i < y.hi)
  longer_in i k l e = (
    ⊎_elim
        (λ (q : i < y.lo).
        absurd (⊎_elim
        (λ (z : (R i).value < at). omega (arith, g.0))
        (λ (z : ((R i).value ≡ at) × ((R i).len < y.depth)). omega (arith, z.1))
        (p.first i q)))
        (λ (q : y.lo ≤ i). q)
        (lt_or_le i y.lo),
    ⊎_elim (λ (q : i < y.hi). q) (λ (q : y.hi ≤ i). absurd (omega (arith, g.1, p.after i q k))) (lt_or_le i y.hi),
  )
    where
      g : (at ≤ (R i).value) × ((R i).value < at + span w y.depth)
      g = head_within w y.depth (R i).value h e

  longer→goes-on : Longer (routes_of w R n) path → goes_on R y ≡ true
  longer→goes-on l =
      let s = mem_list_of (λ i. bit_route w (R i)) n 0 l.0 (subst (Memᴰ l.0) (map_list_of (bit_route w) R n 0) l.1) in
      let i = s.at in
      let v = (ok.each i (omega arith)).prefix in
      let k : length path < length (prefix_bits w (R i).value (R i).len) = subst (λ (r : BitRoute). length path < length r.prefix) s.is l.3 in
      let long : y.depth < (R i).len = omega (arith, k, length_bits y.depth h, length_take_bits (R i).len w (R i).value v.short) in
      let b : begins path (prefix_bits w (R i).value (R i).len) ≡ true = subst (λ (r : BitRoute). begins path r.prefix ≡ true) s.is l.2 in
      let m = sym (begins_head w y.depth h (R i).value (R i).len (omega arith) v.short p.high v.fits) ∙ b in
      let e : head w y.depth (R i).value ≡ h = eqb-true (head w y.depth (R i).value) (head w y.depth at) m ∙ head_start w y.depth h in
      let c = longer_in i (omega arith) long e in
      let q = last_longer i c.0 c.1 long in
      rw (lt-ltb y.lo y.hi (omega (arith, c.0, c.1)), lt-ltb y.depth (R (y.hi - 1)).len q)

  pub goes_on_is : goes_on R y ≡ some_longer (routes_of w R n) path
  goes_on_is =
      test_eq (goes_on R y) (some_longer (routes_of w R n) path)
      (λ t. some_longer_lem (routes_of w R n) path (goes-on→longer t))
      (λ t. longer→goes-on (some-longer→ (routes_of w R n) path t))

  -- a leaf's port is the last match at its first address
  beyond : (i : ℕ) → y.hi ≤ i → i < n → route_matches w at (R i) ≡ false
  beyond i k l =
      test_no (route_matches w at (R i)) (λ t.
      let v = (ok.each i l).prefix in
      omega (arith, (matches→within w (R i).value (R i).len at t).0, first_valid w (R i).value (R i).len v, p.after i k l, span_pos w y.depth))

  all_is : last_match w R n at ≡ last_match w R y.hi at
  all_is =
      let z : y.hi + (n - y.hi) ≡ n = omega (arith, p.most) in
      ap (λ (k : ℕ). last_match w R k at) (sym z)
      ∙ last_match_none w R at y.hi (n - y.hi) (λ i k l. beyond i k (omega arith))

  -- a leaf with routes has one: its own prefix
  own_only : y.lo < y.hi → (R (y.hi - 1)).len ≤ y.depth → (suc y.lo ≡ y.hi) × ((R y.lo).value ≡ at)
  own_only k l = (one, subst (λ (m : ℕ). (R m).value ≡ at) (sym last) e)
    where
      e : (R (y.hi - 1)).value ≡ at
      e = own_value (y.hi - 1) (omega arith) (omega arith) l

      no_more : y.lo < y.hi - 1 → ⊥
      no_more u =
          let b = before w R n ok y.lo (y.hi - 1) u (omega (arith, p.most)) in
          p.from y.lo (omega arith) (omega (arith, p.most))
          (⊎_elim
          (λ (z : (R y.lo).value < (R (y.hi - 1)).value). inl (omega (arith, e)))
          (λ (z : ((R y.lo).value ≡ (R (y.hi - 1)).value) × ((R y.lo).len < (R (y.hi - 1)).len)). inr (z.0 ∙ e, omega (arith, z.1)))
          b)

      one : suc y.lo ≡ y.hi
      one = ⊎_elim (λ (u : y.lo < y.hi - 1). absurd (no_more u)) (λ (u : y.hi - 1 ≤ y.lo). omega arith) (lt_or_le y.lo (y.hi - 1))

      last : y.lo ≡ y.hi - 1
      last = omega (arith, one)

  leaf_last : goes_on R y ≡ false → leaf_port R y ≡ last_match w R y.hi at
  unfolding last_match
  leaf_last f = by (way (ltb y.lo y.hi))
    where
      by : (ltb y.lo y.hi ≡ true) ⊎ (ltb y.lo y.hi ≡ false) → leaf_port R y ≡ last_match w R y.hi at
      by (inl t) =
          let k : y.lo < y.hi = ltb-true y.lo y.hi t in
          let short : (R (y.hi - 1)).len ≤ y.depth = ltb-false y.depth (R (y.hi - 1)).len (rw t at f) in
          let o = own_only k short in
          let m : route_matches w at (R y.lo) ≡ true = ap (λ (v : ℕ). matches w v (R y.lo).len at) o.1 ∙ matches_refl w at (R y.lo).len in
          rw t (carried_is w R n ok y.lo (omega (arith, p.most))
          ∙ sym (ap (λ (b : Bool). cond b (R y.lo).port (last_match w R y.lo at)) m)
          ∙ ap (λ (j : ℕ). last_match w R j at) o.0)
      by (inr t) =
          let k : y.hi ≤ y.lo = ltb-false y.lo y.hi t in
          let z : y.lo ≡ y.hi = omega (arith, p.rows) in
          rw t (p.best ∙ ap (λ (j : ℕ). last_match w R j at) z)

  pub leaf_port_is : goes_on R y ≡ false → leaf_port R y ≡ scan_list (routes_of w R n) path
  leaf_port_is f =
      let im = valid_imaged w R n ok in
      leaf_last f ∙ sym all_is ∙ sym (scan_is_last w R n at ok) ∙ scan_is_held w R n at ok at_lt
      ∙ sym (scan_list_is_scan (routes_of w R n) (bits w at) im.distinct im.ported)
      ∙ ap (scan_list (routes_of w R n)) (path_bits w y.depth h p.deep)
      ∙ scan_more (routes_of w R n) path (bits (w - y.depth) at) (sym goes_on_is ∙ f)
