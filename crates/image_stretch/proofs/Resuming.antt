-- The search for a slot's stretch finds the same where it resumes at the end of the slot before: RULES, "The image". Assumes nothing.
use mathlib.Core.Path.{◌≡◌, refl, sym, ap, ap₂, ◌∙◌, subst}
use mathlib.Core.Bool.{Bool, true, false, cond}
use mathlib.Core.Logic.{⊎_elim}
use Prim.Native.Nat.{ℕ, zero, suc, ◌+◌, ◌-◌, ◌*◌, ◌^◌, ◌≤◌, ◌<◌}
use native.Mathlib.Omega.{arith}
use native.Mathlib.Nat.{add-zero, mod-le, suc-mul, mul-le-mul_right}
use lib.Dec.{eqb}
use borrow.Author.Tests.{eqb-true, le-ltb}
use Rattle.bits.specs.Prefix.{span, head}
use Rattle.lists.proofs.Tests.{test_no, lt_or_le}
use Rattle.bits.proofs.Prefix.{span_pos, head_within}
use Rattle.bits.proofs.Order.{precedes_is, precedes_value_le}
use Rattle.routes.specs.Scan.{route_matches}
use Rattle.routes.specs.declared.Route.{Route}
use Rattle.image_rules.specs.Breadth.{leaf}
use Rattle.image_stretch.specs.declared.Stretch.{Stretch}
use Rattle.image_stretch.specs.Stretches.{stretch, past, carried, last_from, stands_before, under, from_at, from_of, to_of, slot_stretch_at, slot_stretch, short_after, slot_in, address_of, slot_first, stretch_at, stretch_slot}
use Rattle.image_stretch.specs.Needs.{Fits, Parted, Clear}
use Rattle.image_stretch.proofs.FirstAndLast.{past_more, past_here, past_all, passed, last_from_none}
use Rattle.image_stretch.proofs.Bounds.{slot_hi_le, slot_fits}

-- numbers where the test holds may be left out
past_later : (test : ℕ → Bool) (hi i k : ℕ) → i + k ≤ hi → ((m : ℕ) → i ≤ m → m < i + k → test m ≡ true)
    → past test (hi - i) i ≡ past test (hi - (i + k)) (i + k)
past_later test hi i zero h t = ap (λ (j : ℕ). past test (hi - j) j) (sym (add-zero i))
past_later test hi i (suc k) h t =
    let e : i + 1 + k ≡ i + suc k = omega arith in
    past_more test hi i (omega arith) (t i (omega arith) (omega arith))
    ∙ past_later test hi (i + 1) k (omega arith) (λ m a b. t m (omega arith) (omega arith))
    ∙ ap (λ (j : ℕ). past test (hi - j) j) e

module _ (w : ℕ) (R : ℕ → Route) where
  -- the last match of two parts
  last_from_append : (a port lo p q : ℕ) → last_from w R a port lo (p + q) ≡ last_from w R a (last_from w R a port lo p) (lo + p) q
  unfolding last_from
  last_from_append a port lo p zero = ap (last_from w R a port lo) (add-zero p)
  last_from_append a port lo p (suc q) =
      let e : p + suc q ≡ suc (p + q) = omega arith in
      let f : lo + (p + q) ≡ lo + p + q = omega arith in
      ap (last_from w R a port lo) e
      ∙ ap₂ (λ (m z : ℕ). cond (route_matches w a (R m)) (carried (R m)) z) f (last_from_append a port lo p q)

  -- routes that do not match leave the port given
  last_from_apart : (a port lo k : ℕ) → ((i : ℕ) → lo ≤ i → i < lo + k → route_matches w a (R i) ≡ false) → last_from w R a port lo k ≡ port
  unfolding last_from
  last_from_apart a port lo zero h = refl
  last_from_apart a port lo (suc k) h =
      rw (h (lo + k) (omega arith) (omega arith)) (last_from_apart a port lo k (λ i p q. h i p (omega arith)))

  -- where the routes up to `at` stand before the slot, and those up to `short` do not match it
  pub stretch_resumed : (x : Stretch) (short at v l : ℕ) → x.lo ≤ short → short ≤ at → at ≤ x.hi
      → ((k : ℕ) → x.lo ≤ k → k < at → stands_before R v l k ≡ true)
      → ((k : ℕ) → x.lo ≤ k → k < short → route_matches w v (R k) ≡ false)
      → slot_stretch_at w R x short at v l ≡ slot_stretch w R x v l
  unfolding slot_stretch_at slot_stretch
  stretch_resumed x short at v l a b c before none =
      ap (λ (f : ℕ). stretch f (past (under w R v l) (x.hi - f) f) l (last_from w R v (last_from w R v x.best short (at - short)) at (f - at))) from_is
      ∙ ap (stretch (from_of R x v l) (to_of w R x v l) l) port_is
    where
      from_is : from_at R x at v l ≡ from_of R x v l
      from_is =
          let e : x.lo + (at - x.lo) ≡ at = omega arith in
          sym (past_later (stands_before R v l) x.hi x.lo (at - x.lo) (omega arith) (λ m p q. before m p (omega arith))
          ∙ ap (λ (j : ℕ). past (stands_before R v l) (x.hi - j) j) e)

      later : at ≤ from_of R x v l
      later = omega (arith, from_is, (passed (stands_before R v l) (x.hi - at) at).from)

      port_is : last_from w R v (last_from w R v x.best short (at - short)) at (from_of R x v l - at) ≡ last_from w R v x.best x.lo (from_of R x v l - x.lo)
      port_is =
          let e : short + (at - short) ≡ at = omega arith in
          let f : at - short + (from_of R x v l - at) ≡ from_of R x v l - short = omega (arith, later) in
          let g : x.lo + (short - x.lo) ≡ short = omega arith in
          let h : short - x.lo + (from_of R x v l - short) ≡ from_of R x v l - x.lo = omega (arith, later) in
          ap (λ (m : ℕ). last_from w R v (last_from w R v x.best short (at - short)) m (from_of R x v l - at)) (sym e)
          ∙ sym (last_from_append v x.best short (at - short) (from_of R x v l - at))
          ∙ ap (last_from w R v x.best short) f
          ∙ ap₂ (λ (p m : ℕ). last_from w R v p m (from_of R x v l - short))
          (sym (last_from_apart v x.best x.lo (short - x.lo) (λ i p q. none i p (omega arith)))) (sym g)
          ∙ sym (last_from_append v x.best x.lo (short - x.lo) (from_of R x v l - short))
          ∙ ap (last_from w R v x.best x.lo) h

  -- where no route from `at` on comes before the slot's end
  stretch_bare : (x : Stretch) (at v l : ℕ) → (at < x.hi → v + span w l ≤ (R at).value) → slot_stretch_at w R x at at v l ≡ stretch at at l x.best
  unfolding slot_stretch_at
  stretch_bare x at v l h =
      ap (λ (f : ℕ). stretch f (past (under w R v l) (x.hi - f) f) l (last_from w R v (last_from w R v x.best at (at - at)) at (f - at)))
      (stays (stands_before R v l) (λ k. test_no (stands_before R v l at) (λ t. omega (arith, h k, span_pos w l, precedes_value_le (precedes_is (R at).value (R at).len v l t)))))
      ∙ ap₂ (λ (f p : ℕ). stretch at f l p)
      (stays (under w R v l) (λ k. test_no (under w R v l at) (λ t.
      omega (arith, h k, (head_within w l (R at).value (head w l v) (eqb-true (head w l (R at).value) (head w l v) t)).1, (head_within w l v (head w l v) refl).0))))
      (last_from_none w R v (last_from w R v x.best at (at - at)) at (at - at) (omega arith) ∙ last_from_none w R v x.best at (at - at) (omega arith))
    where
      stays : (test : ℕ → Bool) → (at < x.hi → test at ≡ false) → past test (x.hi - at) at ≡ at
      stays test t =
          ⊎_elim (λ (k : at < x.hi). past_here test x.hi at k (t k)) (λ (k : x.hi ≤ at). past_all test x.hi at k) (lt_or_le at x.hi)

-- on the way, at slot j of m: the search resumes at route `at`, and none of the node's routes before `short` matches a slot from j on
pub record Resumed (w : ℕ) (R : ℕ → Route) (s m : ℕ) (x : Stretch) (j short at : ℕ) : Type 0 where
  pub first : x.lo ≤ short
  pub passed : short ≤ at
  pub most : at ≤ x.hi
  pub before : (i k : ℕ) → j ≤ i → i < m → x.lo ≤ k → k < at → stands_before R (slot_first w R s x i) (x.depth + s) k ≡ true
  pub none : (i k : ℕ) → j ≤ i → i < m → x.lo ≤ k → k < short → route_matches w (slot_first w R s x i) (R k) ≡ false

module _ (w : ℕ) (R : ℕ → Route) (s m : ℕ) (x : Stretch) (f : Fits x) where
  pub resumed_none : Resumed w R s m x 0 x.lo x.lo
  resumed_none = record {
    first = omega arith;
    passed = omega arith;
    most = f.ordered;
    before = λ i k a b c d. absurd (omega arith);
    none = λ i k a b c d. absurd (omega arith);
  }

  module _ (j short at : ℕ) (r : Resumed w R s m x j short at) where
    -- later slots too are found from there
    pub resumed_later : (i : ℕ) → j ≤ i → Resumed w R s m x i short at
    resumed_later i h = record {
      first = r.first;
      passed = r.passed;
      most = r.most;
      before = λ b k p. r.before b k (omega arith);
      none = λ b k p. r.none b k (omega arith);
    }

    pub resumed_is : j < m → slot_stretch_at w R x short at (slot_first w R s x j) (x.depth + s) ≡ stretch_at w R s x j
    resumed_is h =
        stretch_resumed w R x short at (slot_first w R s x j) (x.depth + s) r.first r.passed r.most
        (λ k. r.before j k (omega arith) h) (λ k. r.none j k (omega arith) h)

    -- a slot without a route is a leaf with the node's port
    pub clear_slot : (r : ℕ) → Clear w R m x short at (address_of w R x) (x.depth + s) r → (i : ℕ) → j ≤ i → i < r
        → stretch_slot w R s x i ≡ leaf x.best
    clear_slot r c i h l =
        ap (slot_in R)
        (sym (stretch_resumed w R x short at (slot_first w R s x i) (x.depth + s) r'.first r'.passed r'.most
        (λ k. r'.before i k (omega arith) (omega (arith, c.few))) (λ k. r'.none i k (omega arith) (omega (arith, c.few))))
        ∙ ap (λ (k : ℕ). slot_stretch_at w R x k at (slot_first w R s x i) (x.depth + s)) (c.none (omega arith))
        ∙ stretch_bare w R x at (slot_first w R s x i) (x.depth + s) later)
        ∙ none
      where
        r' : Resumed w R s m x i short at
        r' = resumed_later i h

        later : at < x.hi → slot_first w R s x i + span w (x.depth + s) ≤ (R at).value
        later k =
            let n = span w (x.depth + s) in
            let t : suc i * n ≤ r * n = mul-le-mul_right n l in
            omega (arith, t, suc-mul i n, c.later k, span_pos w (x.depth + s), mod-le (address_of w R x + i * n) (2 ^ w))

        none : slot_in R (stretch at at (x.depth + s) x.best) ≡ leaf x.best
        none = rw (le-ltb at at (omega arith))

    abbrev y : Stretch
    y = stretch_at w R s x j

    from_at_lem : j < m → at ≤ y.lo
    unfolding slot_stretch_at
    from_at_lem h =
        let v = slot_first w R s x j in
        let l = x.depth + s in
        omega (arith, ap (λ (z : Stretch). z.lo) (resumed_is h), (passed (stands_before R v l) (x.hi - at) at).from)

    pub resumed_more : Parted w R s m x → j < m → (z : Stretch) → z ≡ stretch_at w R s x j → (next : ℕ) → next ≡ short_after short z
        → Resumed w R s m x (j + 1) next z.hi
    resumed_more p h z e next g =
        subst (λ (u : Stretch). (q : ℕ) → q ≡ short_after short u → Resumed w R s m x (j + 1) q u.hi) (sym e)
        (λ q d. subst (λ (k : ℕ). Resumed w R s m x (j + 1) k y.hi) (sym d) (by (eqb y.lo short) refl)) next g
      where
        fits : Fits y
        fits = slot_fits w R x (slot_first w R s x j) (x.depth + s) f

        start : at ≤ y.lo
        start = from_at_lem h

        end : y.hi ≤ x.hi
        end = slot_hi_le w R x (slot_first w R s x j) (x.depth + s) f

        by : (b : Bool) → eqb y.lo short ≡ b → Resumed w R s m x (j + 1) (cond b y.hi short) y.hi
        by true t =
            let c : y.lo ≡ short = eqb-true y.lo short t in
            record {
              first = omega (arith, r.first, c, fits.ordered);
              passed = omega arith;
              most = end;
              before = λ i k a b. p.ahead j i k (omega arith) b;
              none = λ i k a b u v. ⊎_elim
                  (λ (o : k < y.lo). r.none i k (omega arith) b u (omega (arith, c)))
                  (λ (o : y.lo ≤ k). p.apart j i k (omega arith) b o v)
                  (lt_or_le k y.lo);
            }
        by false t = record {
          first = r.first;
          passed = omega (arith, r.passed, start, fits.ordered);
          most = end;
          before = λ i k a b. p.ahead j i k (omega arith) b;
          none = λ i k a. r.none i k (omega arith);
        }
