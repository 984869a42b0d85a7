-- A place of the image by its first bits, written as a number, and its stretch of the list; from a place to the place in one of its
-- slots. Assumes nothing.
use mathlib.Core.Path.{◌≡◌, refl, sym, ap, ◌∙◌, subst}
use mathlib.Core.Bool.{true, false, true≢false}
use mathlib.Core.Logic.{◌⊎◌, inl, inr, ⊎_elim}
use Prim.Native.Nat.{ℕ, suc, ◌+◌, ◌-◌, ◌*◌, ◌%◌, ◌^◌, ◌≤◌, ◌<◌}
use native.Mathlib.Omega.{arith}
use native.Mathlib.Nat.{mod-eq_of_lt, mul_assoc, add-mul, suc-mul, mul-le-mul_right}
use lib.Dec.{ltb}
use lib.Pow.{pow-add}
use borrow.Author.Tests.{lt-ltb, eq-eqb, eqb-true, ltb-true}
use Rattle.bits.specs.Prefix.{span, head, first}
use Rattle.lists.proofs.Tests.{way, test_eq, lt_or_le}
use Rattle.bits.proofs.Prefix.{span_pos, head_shorter, head_range, start, head_within, head_start, start_lt, span_deeper}
use Rattle.bits.proofs.Order.{Precedes, precedes_yes, precedes_is, precedes_trans, precedes_value_le}
use Rattle.routes.specs.Routes.{ValidList}
use Rattle.routes.specs.Scan.{route_matches, last_match}
use Rattle.routes.specs.declared.Route.{Route}
use Rattle.routes.proofs.Rising.{before}
use Rattle.image_stretch.specs.declared.Stretch.{Stretch}
use Rattle.image_stretch.specs.Stretches.{last_from, stands_before, under, from_of, to_of, slot_stretch, address_of, slot_address}
use Rattle.image_stretch.proofs.FirstAndLast.{Passed, passed, last_from_is}
use Rattle.routes.proofs.Scan.{last_match_alike}

-- route i stands before the prefix v/l
abbrev pub StandsBefore : (ℕ → Route) → ℕ → ℕ → ℕ → Type 0
StandsBefore R v l i = Precedes (R i).value (R i).len v l

-- x is the stretch of the place whose first (depth) bits write h: before it stand the routes before the place's prefix, in it those
-- that begin with its bits, and after it those past its last address
pub record Place (w : ℕ) (R : ℕ → Route) (n h : ℕ) (x : Stretch) : Type 0 where
  pub high : h < 2 ^ x.depth
  pub deep : x.depth ≤ w
  pub rows : x.lo ≤ x.hi
  pub most : x.hi ≤ n
  pub first : (i : ℕ) → i < x.lo → StandsBefore R (start w x.depth h) x.depth i
  pub from : (i : ℕ) → x.lo ≤ i → i < n → StandsBefore R (start w x.depth h) x.depth i → ⊥
  pub inside : (i : ℕ) → x.lo ≤ i → i < x.hi → head w x.depth (R i).value ≡ h
  pub after : (i : ℕ) → x.hi ≤ i → i < n → start w x.depth h + span w x.depth ≤ (R i).value
  pub best : x.best ≡ last_match w R x.lo (start w x.depth h)

-- what stands before a prefix stands before one that begins no earlier and is no shorter
pub ahead_later : {v l a d b m : ℕ} → Precedes v l a d → a ≤ b → d ≤ m → Precedes v l b m
ahead_later (inl x) h k = inl (omega arith)
ahead_later {v} {l} {a} {d} {b} {m} (inr x) h k =
    ⊎_elim
    (λ (p : a < b). inl (omega (arith, x.0)))
    (λ (p : b ≤ a). inr (omega (arith, x.0), omega (arith, x.1)))
    (lt_or_le a b)

not_ahead_le : {v l b m : ℕ} → (Precedes v l b m → ⊥) → b ≤ v
not_ahead_le {v} {l} {b} {m} f = ⊎_elim (λ (p : v < b). absurd (f (inl p))) (λ (p : b ≤ v). p) (lt_or_le v b)

module _ (w : ℕ) (R : ℕ → Route) (n : ℕ) (ok : ValidList w R n) where
  -- routes rise by value
  pub value_le : (i k : ℕ) → i ≤ k → k < n → (R i).value ≤ (R k).value
  value_le i k h l =
      ⊎_elim
      (λ (p : i < k). precedes_value_le (before w R n ok i k p l))
      (λ (p : k ≤ i). let z : i ≡ k = omega arith in omega (arith, ap (λ (j : ℕ). (R j).value) z))
      (lt_or_le i k)

  module _ (x : Stretch) (h : ℕ) (p : Place w R n h x) where
    -- the routes before a place match all its addresses alike
    same_match : (c b i : ℕ) → head w x.depth c ≡ h → head w x.depth b ≡ h → i < x.lo
        → route_matches w c (R i) ≡ true → route_matches w b (R i) ≡ true
    same_match c b i ec eb l m = ⊎_elim near far (lt_or_le x.depth (R i).len)
      where
        v : ℕ
        v = (R i).value

        e : head w (R i).len c ≡ head w (R i).len (R i).value
        e = eqb-true (head w (R i).len c) (head w (R i).len (R i).value) m

        near : x.depth < (R i).len → route_matches w b (R i) ≡ true
        near q =
            let d : head w x.depth (R i).value ≡ h =
            sym (head_shorter w x.depth (R i).len c (R i).value (omega arith) (ok.each i (omega (arith, p.rows, p.most))).prefix.short e) ∙ ec in
            let g = head_within w x.depth (R i).value h d in
            absurd (⊎_elim
            (λ (z : (R i).value < start w x.depth h). omega (arith, g.0))
            (λ (z : ((R i).value ≡ start w x.depth h) × ((R i).len < x.depth)). omega (arith, z.1))
            (p.first i l))

        far : (R i).len ≤ x.depth → route_matches w b (R i) ≡ true
        far q =
            eq-eqb (head w (R i).len b) (head w (R i).len (R i).value)
            (head_shorter w (R i).len x.depth b c q p.deep (eb ∙ sym ec) ∙ e)

    -- the port that a place inherits is that of any of its addresses
    pub best_is : (b : ℕ) → head w x.depth b ≡ h → x.best ≡ last_match w R x.lo b
    best_is b eb =
        let a = start w x.depth h in
        let ea = head_start w x.depth h in
        p.best
        ∙ last_match_alike w R x.lo a b
        (λ i l. test_eq (route_matches w a (R i)) (route_matches w b (R i)) (same_match a b i ea eb l) (same_match b a i eb ea l))

    -- slot j, s bits down
    module _ (s j : ℕ) (fits : x.depth + s ≤ w) (l : j < 2 ^ s) where
      abbrev pub deeper : ℕ
      deeper = x.depth + s

      abbrev pub bits : ℕ
      bits = h * 2 ^ s + j

      abbrev pub at : ℕ
      at = start w deeper bits

      span_is : span w x.depth ≡ 2 ^ s * span w deeper
      span_is = span_deeper w x.depth s fits

      pub at_is : at ≡ start w x.depth h + j * span w deeper
      at_is =
          add-mul (h * 2 ^ s) j (span w deeper)
          ∙ ap (λ (k : ℕ). k + j * span w deeper) (mul_assoc h (2 ^ s) (span w deeper) ∙ ap (λ (k : ℕ). h * k) (sym span_is))

      pub at_end_lem : at + span w deeper ≤ start w x.depth h + span w x.depth
      at_end_lem =
          let m : suc j * span w deeper ≤ 2 ^ s * span w deeper = mul-le-mul_right (span w deeper) l in
          omega (arith, m, suc-mul j (span w deeper), at_is, span_is)

      bits_lt : bits < 2 ^ deeper
      bits_lt =
          let m : suc h * 2 ^ s ≤ 2 ^ x.depth * 2 ^ s = mul-le-mul_right (2 ^ s) p.high in
          omega (arith, m, suc-mul h (2 ^ s), pow-add 2 x.depth s)

      pub at_lt : at < 2 ^ w
      at_lt = omega (arith, start_lt w deeper bits fits bits_lt, span_pos w deeper)

      at_head : head w x.depth at ≡ h
      at_head = head_range w x.depth h at (omega (arith, at_is)) (omega (arith, at_end_lem, span_pos w deeper))

      abbrev pub y : Stretch
      y = slot_stretch w R x at deeper

      abbrev lo : ℕ
      lo = from_of R x at deeper

      abbrev hi : ℕ
      hi = to_of w R x at deeper

      some_from : Passed (stands_before R at deeper) (x.hi - x.lo) x.lo lo
      some_from = passed (stands_before R at deeper) (x.hi - x.lo) x.lo

      lo_le : lo ≤ x.hi
      lo_le = omega (arith, some_from.most, p.rows)

      some_to : Passed (under w R at deeper) (x.hi - lo) lo hi
      some_to = passed (under w R at deeper) (x.hi - lo) lo

      hi_le : hi ≤ x.hi
      hi_le = omega (arith, some_to.most, lo_le)

      first_in : (i : ℕ) → i < lo → StandsBefore R at deeper i
      first_in i k =
          ⊎_elim
          (λ (q : i < x.lo). ahead_later (p.first i q) (omega (arith, at_is)) (omega arith))
          (λ (q : x.lo ≤ i). precedes_is (R i).value (R i).len at deeper (some_from.holds i q k))
          (lt_or_le i x.lo)

      from_in : (i : ℕ) → lo ≤ i → i < n → StandsBefore R at deeper i → ⊥
      from_in i k m a = ⊎_elim near far (lt_or_le i x.hi)
        where
          far : x.hi ≤ i → ⊥
          far q = omega (arith, precedes_value_le a, p.after i q m, at_end_lem, span_pos w deeper)

          here : lo < x.hi → StandsBefore R at deeper lo → ⊥
          here q b =
              true≢false (sym (precedes_yes (R lo).value (R lo).len at deeper b) ∙ some_from.stops (omega (arith, p.rows)))

          near : i < x.hi → ⊥
          near q =
              ⊎_elim
              (λ (u : lo < i). here (omega arith) (precedes_trans (before w R n ok lo i u m) a))
              (λ (u : i ≤ lo). let z : i ≡ lo = omega arith in here (omega arith) (subst (StandsBefore R at deeper) z a))
              (lt_or_le lo i)

      inside_in : (i : ℕ) → lo ≤ i → i < hi → head w deeper (R i).value ≡ bits
      inside_in i k m = eqb-true (head w deeper (R i).value) (head w deeper at) (some_to.holds i k m) ∙ head_start w deeper bits

      after_in : (i : ℕ) → hi ≤ i → i < n → at + span w deeper ≤ (R i).value
      after_in i k m = ⊎_elim near far (lt_or_le i x.hi)
        where
          far : x.hi ≤ i → at + span w deeper ≤ (R i).value
          far q = omega (arith, p.after i q m, at_end_lem)

          near : i < x.hi → at + span w deeper ≤ (R i).value
          near q = ⊎_elim within beyond (lt_or_le (R hi).value (at + span w deeper))
            where
              low : at ≤ (R hi).value
              low = not_ahead_le (from_in hi some_to.from (omega arith))

              within : (R hi).value < at + span w deeper → at + span w deeper ≤ (R i).value
              within u =
                  let e = head_range w deeper bits (R hi).value low u in
                  let t : under w R at deeper hi ≡ true = eq-eqb (head w deeper (R hi).value) (head w deeper at) (e ∙ sym (head_start w deeper bits)) in
                  absurd (true≢false (sym t ∙ some_to.stops (omega (arith, lo_le))))

              beyond : at + span w deeper ≤ (R hi).value → at + span w deeper ≤ (R i).value
              beyond u = omega (arith, value_le hi i k m)

      best_in : last_from w R at x.best x.lo (lo - x.lo) ≡ last_match w R lo at
      best_in =
          let z : x.lo + (lo - x.lo) ≡ lo = omega (arith, some_from.from) in
          last_from_is w R n ok at x.best x.lo (lo - x.lo) (omega (arith, some_from.from, lo_le, p.most)) (best_is at at_head)
          ∙ ap (λ (k : ℕ). last_match w R k at) z

      pub slot_place : Place w R n bits y
      unfolding slot_stretch
      slot_place = record {
        high = bits_lt;
        deep = fits;
        rows = some_to.from;
        most = omega (arith, hi_le, p.most);
        first = first_in;
        from = from_in;
        inside = inside_in;
        after = after_in;
        best = best_in;
      }

      pub slot_within : (x.lo ≤ y.lo) × (y.hi ≤ x.hi) × (y.depth ≡ deeper)
      unfolding slot_stretch
      slot_within = (some_from.from, hi_le, refl)

    -- the node's first address, and a slot's, as the code finds them
    address_some : x.lo < x.hi → address_of w R x ≡ start w x.depth h
    address_some k = rw (lt-ltb x.lo x.hi k) (ap (λ (g : ℕ). g * span w x.depth) (p.inside x.lo (omega arith) k))

    address_is : (x.lo < x.hi) ⊎ (x.depth ≡ 0) → address_of w R x ≡ start w x.depth h
    address_is (inl k) = address_some k
    address_is (inr z) = by (way (ltb x.lo x.hi))
      where
        none : start w x.depth h ≡ 0
        none =
            let e : h < 1 = subst (λ (d : ℕ). h < 2 ^ d) z p.high in
            let f : h ≡ 0 = omega arith in
            ap (λ (g : ℕ). g * span w x.depth) f ∙ omega arith

        by : (ltb x.lo x.hi ≡ true) ⊎ (ltb x.lo x.hi ≡ false) → address_of w R x ≡ start w x.depth h
        by (inl t) = address_some (ltb-true x.lo x.hi t)
        by (inr t) = rw t (sym none)

    pub slot_address_is : (s j : ℕ) (fits : x.depth + s ≤ w) (l : j < 2 ^ s) → (x.lo < x.hi) ⊎ (x.depth ≡ 0)
        → slot_address w (address_of w R x) (x.depth + s) j ≡ at s j fits l
    slot_address_is s j fits l f =
        ap (λ (a : ℕ). (a + j * span w (x.depth + s)) % 2 ^ w) (address_is f)
        ∙ ap (λ (a : ℕ). a % 2 ^ w) (sym (at_is s j fits l))
        ∙ mod-eq_of_lt (at_lt s j fits l)
