-- A route cut out of rows that hold a trie removes it from the trie; the row of the leaf that falls away is freed. Assumes nothing.
use mathlib.Core.Path.{◌≡◌, refl, sym, ap, ap₂, ◌∙◌, subst}
use mathlib.Core.Logic.{◌⊎◌, inl, inr}
use mathlib.Core.Bool.{Bool, true, false, cond, not, ◌&&◌, true≢false}
use mathlib.Core.List.{[], ◌∷◌, ◌++◌}
use Prim.Native.Nat.{ℕ, zero, suc, ◌+◌, ◌-◌, ◌<◌}
use native.Mathlib.Omega.{arith}
use lib.Dec.{eqb}
use lib.ListN.{length, length-append}
use borrow.Author.Tests.{eq-eqb, eqb-true}
use Rattle.bits.specs.Bits.{Bits, prefix_bits, same, bit_before}
use Rattle.bits.proofs.Bits.{same_refl}
use Rattle.lists.proofs.Tests.{way, both}
use Rattle.trie.specs.Routes.{Routes, upd, side}
use Rattle.trie.specs.Trie.{Trie, leaf, node, IsTrie}
use Rattle.trie.specs.Update.{Best, none, some, down, below, best, refill, remove}
use Rattle.trie.proofs.Routes.{upd_other}
use Rattle.trie.proofs.Order.{under_not_nil}
use Rattle.trie.proofs.Remove.{own_out, below_is as below-leads, best_is as best-leads, IsBest}
use Rattle.routes.specs.Routes.{ValidRoute}
use Rattle.routes.specs.declared.Route.{Route}
use Rattle.table_rules.specs.Rows.{Mem, Layout, Stores, child, route_of, with_route, with_child}
use Rattle.table_rules.specs.Holds.{Names, Holds, hit, times}
use Rattle.table_rules.specs.Announce.{is_same}
use Rattle.table_rules.specs.Withdraw.{best_below, is_last, Cut, cut_by, cut}
use Rattle.table_rules.specs.declared.Row.{Row}
use Rattle.table_rules.proofs.Paths.{At, at_bit, at_down, at_last, at_same}
use Rattle.table_rules.proofs.Holds.{hit_same, row_at, times_child, too_deep}
use Rattle.table_rules.proofs.Frame.{Agree, times_frame, holds_frame, Unique, SideChanged, side_holds, side_times, unique_child, root_not_below, below_not_root, sides_apart}
use Rattle.table_rules.proofs.Announce.{RouteAt, at_of, route_row, down_own, down_other, with_own, with_other, route_keeps}
use Rattle.table_rules.proofs.Best.{Finds, below_is}

-- where something is below a place, its best is a route that goes on with a bit
pub record Leader (w : ℕ) (path : Bits) (c : Bool → Trie) (T : Routes) (q : Route) : Type 0 where
  pub bit : Bool
  pub rest : Bits
  pub is : below (λ b. best (c b)) ≡ some (bit ∷ rest) q.port
  pub at : RouteAt w path q (bit ∷ rest)
  pub live : 0 < T (bit ∷ rest)

-- a trie that is there holds a route
trie_some : (t : Trie) (T : Routes) → IsTrie t T → (t ≡ leaf → ⊥) → (q : Bits) × (0 < T q)
trie_some leaf T h ne = absurd (ne refl)
trie_some (node s p c) T h ne = (s, omega (arith, h.some, h.own))

module _ (w : ℕ) (M : Mem) (k : ℕ) (path : Bits) (r : ℕ) (s : Bits) (p : ℕ) (c : Bool → Trie) (S : Routes)
    (deep : length path + suc k ≡ w) (h : Holds w M path r (node s p c)) (rule : IsTrie (node s p c) S) where
  abbrev S₀ : Routes
  S₀ = upd S s 0

  out : S₀ [] ≡ 0
  out = own_out S s rule.top

  pub leader : (b : Bool) → (c b ≡ leaf → ⊥) → Leader w path c S₀ (best_below w M k (M r))
  leader b ne =
      by (below (λ d. best (c d))) refl (below_is w M s p c k path r deep h)
      (below-leads S₀ out (λ d. best (c d)) (λ d. best-leads (c d) (side d S₀) (rule.rest d)))
    where
      q : Route
      q = best_below w M k (M r)

      by : (x : Best) → below (λ d. best (c d)) ≡ x → Finds w path x q → IsBest x S₀ → Leader w path c S₀ q
      by none e f g =
          let t : (y : Bits) × (0 < side b S₀ y) = trie_some (c b) (side b S₀) (rule.rest b) ne in
          absurd (omega (arith, g (b ∷ t.0), t.1))
      by (some [] o) e f g = absurd (omega (arith, g.pos, g.own, out))
      by (some (d ∷ v) o) e f g = record {
        bit = d;
        rest = v;
        is = e ∙ ap (some (d ∷ v)) (sym f.1);
        at = f.0;
        live = omega (arith, g.pos, g.own);
      }

pub leaf_of_lem : (M : Mem) (c : ℕ) (t : Trie) → Names c t → c ≡ 0 → t ≡ leaf
leaf_of_lem M c leaf names e = refl
leaf_of_lem M c (node s p k) names e = absurd (omega arith)

some_of : (M : Mem) (c : ℕ) (t : Trie) → Names c t → (t ≡ leaf → ⊥) → 0 < c
some_of M c leaf names ne = absurd (ne refl)
some_of M c (node s p k) names ne = names

-- a removal at a node: the holder of the place afterwards, and what is taken from below
remove_same : (y s : Bits) (p : ℕ) (c : Bool → Trie) (u : Bits) (o : ℕ) → same y s ≡ true → below (λ b. best (c b)) ≡ some u o
    → remove y (node s p c) ≡ node u o (λ d. down d u (c d) (λ x. remove x (c d)))
remove_same y s p c u o e f =
    ap
    (λ (a : Bool). cond a (refill (below (λ b. best (c b))) c (λ b x. remove x (c b))) (node s p (λ b. down b y (c b) (λ x. remove x (c b)))))
    e
    ∙ ap (λ (x : Best). refill x c (λ b x. remove x (c b))) f

remove_other : (y s : Bits) (p : ℕ) (c : Bool → Trie) → same y s ≡ false
    → remove y (node s p c) ≡ node s p (λ d. down d y (c d) (λ x. remove x (c d)))
remove_other y s p c e = rw e

module _ {S : Type 0} (L : Layout S) (w : ℕ) (st : Stores w L) where
  -- the rows from r on held t, and hold it without the route; one row is free
  pub record Shrunk (m : S) (x : Cut S) (path : Bits) (r : ℕ) (t : Trie) (y : Bits) : Type 0 where
    pub holds : Holds w (L.get x.rows) path r (remove y t)
    pub named : (c : ℕ) → 0 < c → Names c (remove y t)
    pub reached : (i : ℕ) → times (L.get x.rows) r (remove y t) i + hit x.freed i ≡ times (L.get m) r t i
    pub frame : (i : ℕ) → times (L.get m) r t i ≡ 0 → L.get x.rows i ≡ L.get m i
    pub rooms : L.room x.rows ≡ L.room m

  -- every row that is reached is there
  abbrev Lies : S → ℕ → Trie → Type 0
  Lies m r t = (i : ℕ) → 0 < times (L.get m) r t i → i < L.room m

  abbrev Shrinks : Trie → Type 0
  Shrinks leaf = Unit {0}
  Shrinks (node s p c) =
      (k : ℕ) (path : Bits) (m : S) (r : ℕ) (q : Route) (y : Bits) (T : Routes) → length path + k ≡ w → At w path q.value q.len y
      → Holds w (L.get m) path r (node s p c) → Unique (L.get m) r (node s p c) → Lies m r (node s p c) → IsTrie (node s p c) T → 0 < T y
      → is_last q (L.get m r) ≡ false → Shrunk m (cut L w k m r q) path r (node s p c) y

  module _ (s : Bits) (p : ℕ) (c : Bool → Trie) (ih : (b : Bool) → Shrinks (c b)) (k : ℕ) (path : Bits) (m : S) (r : ℕ) (y : Bits) (T : Routes)
      (deep : length path + suc k ≡ w) (h : Holds w (L.get m) path r (node s p c)) (once : Unique (L.get m) r (node s p c))
      (lies : Lies m r (node s p c)) (rule : IsTrie (node s p c) T)
      (H D : Route) (u : Bits) (b : Bool) (v : Bits) (upper : RouteAt w path H u) (lower : At w path D.value D.len (b ∷ v))
      (is : remove y (node s p c) ≡ node u H.port (λ d. down d (b ∷ v) (c d) (λ z. remove z (c d))))
      (live : 0 < side b (upd T s 0) v) where
    abbrev x : Row
    x = L.get m r

    abbrev kids : Bool → Trie
    kids d = down d (b ∷ v) (c d) (λ z. remove z (c d))

    r_lies : r < L.room m
    r_lies = lies r (omega (arith, hit_same r))

    not_r : (d : Bool) (i : ℕ) → 0 < times (L.get m) (child x d) (c d) i → i ≡ r → ⊥
    not_r = below_not_root (L.get m) r s p c once

    -- the route that goes is on side b
    there : c b ≡ leaf → ⊥
    there e = omega (arith, subst (λ (t : Trie). IsTrie t (side b (upd T s 0))) e (rule.rest b) v, live)

    -- put together from what became of side b
    put_together : (z : Cut S) (Y : Row) (c' : ℕ) → L.get z.rows r ≡ Y → route_of Y ≡ H → child Y b ≡ c'
        → child Y (not b) ≡ child x (not b) → Names c' (remove v (c b)) → Holds w (L.get z.rows) (path ++ (b ∷ [])) c' (remove v (c b))
        → ((i : ℕ) → times (L.get z.rows) c' (remove v (c b)) i + hit z.freed i ≡ times (L.get m) (child x b) (c b) i)
        → Agree (L.get m) (L.get z.rows) (child x (not b)) (c (not b))
        → ((i : ℕ) → times (L.get m) r (node s p c) i ≡ 0 → L.get z.rows i ≡ L.get m i) → L.room z.rows ≡ L.room m
        → Shrunk m z path r (node s p c) y
    put_together z Y c' row route own other named holds count same-side frame rooms =
        let M' : Mem = L.get z.rows in
        let r-is : route_of (M' r) ≡ H = ap route_of row ∙ route in
        let change : SideChanged w (L.get m) M' path r u H.port c kids b c' (remove v (c b)) = record {
          valid = subst (ValidRoute w) (sym r-is) upper.valid;
          bits = ap (λ (g : Route). prefix_bits w g.value g.len) r-is ∙ upper.is;
          port = ap (λ (g : Route). g.port) r-is;
          own = ap (λ (g : Row). child g b) row ∙ own;
          named = named;
          holds = holds;
          own_is = down_own b v (c b) (λ i. remove i (c b));
          other = ap (λ (g : Row). child g (not b)) row ∙ other;
          other_is = down_other b v (c (not b)) (λ i. remove i (c (not b)));
          other_same = same-side;
        } in
        record {
          holds = subst (Holds w M' path r) (sym is) (side_holds w (L.get m) M' path r s u p H.port c kids b c' (remove v (c b)) h change);
          named = λ j g. subst (Names j) (sym is) g;
          reached = λ i.
              let t : times M' r (node u H.port kids) i + hit z.freed i ≡ times (L.get m) r (node s p c) i =
              omega (arith, side_times w (L.get m) M' path r s u p H.port c kids b c' (remove v (c b)) h change i, count i) in
              ap (λ (g : Trie). times M' r g i + hit z.freed i) is ∙ t;
          frame = frame;
          rooms = rooms;
        }

    root_frame : (Y : Row) (i : ℕ) → times (L.get m) r (node s p c) i ≡ 0 → L.get (L.put m r Y) i ≡ L.get m i
    root_frame Y i g = st.get_other m r i Y (λ f. omega (arith, hit_same r, ap (times (L.get m) r (node s p c)) f))

    -- the leaf on side b falls away
    shrunk_last : remove v (c b) ≡ leaf → ((i : ℕ) → times (L.get m) (child x b) (c b) i ≡ hit (child x b) i)
        → Shrunk m (record { rows = L.put m r (with_child (with_route x H) b 0); freed = child x b }) path r (node s p c) y
    shrunk_last gone alone =
        let Y : Row = with_child (with_route x H) b 0 in
        put_together (record { rows = L.put m r Y; freed = child x b }) Y 0 (st.get_same m r Y r_lies upper.valid.prefix.fits) refl (with_own (with_route x H) b 0)
        (with_other (with_route x H) b 0 ∙ route_keeps x H (not b))
        (subst (Names 0) (sym gone) refl)
        (subst (Holds w (L.get (L.put m r Y)) (path ++ (b ∷ [])) 0) (sym gone) tt)
        (λ i. ap (λ (t : Trie). times (L.get (L.put m r Y)) 0 t i + hit (child x b) i) gone ∙ (let z : 0 + hit (child x b) i ≡ hit (child x b) i = omega arith in z) ∙ sym (alone i))
        (λ i g. st.get_other m r i Y (not_r (not b) i g))
        (root_frame Y)
        (st.room_put m r Y)

    -- it is further down on side b
    shrunk_on : 0 < child x b
        → Shrunk (L.put m r (with_route x H)) (cut L w k (L.put m r (with_route x H)) (child x b) D) (path ++ (b ∷ [])) (child x b) (c b) v
        → Shrunk m (cut L w k (L.put m r (with_route x H)) (child x b) D) path r (node s p c) y
    shrunk_on pos g =
        let Y : Row = with_route x H in
        let m₁ : S = L.put m r Y in
        let z : Cut S = cut L w k m₁ (child x b) D in
        let agree : ((d : Bool) → Agree (L.get m) (L.get m₁) (child x d) (c d)) = (λ d i f. st.get_other m r i Y (not_r d i f)) in
        let count : ((i : ℕ) → times (L.get m₁) (child x b) (c b) i ≡ times (L.get m) (child x b) (c b) i) =
        (λ i. times_frame (L.get m) (L.get m₁) (child x b) (c b) i (agree b)) in
        put_together z Y (child x b)
        (g.frame r (count r ∙ root_not_below (L.get m) r s p c once b) ∙ st.get_same m r Y r_lies upper.valid.prefix.fits)
        refl (route_keeps x H b) (route_keeps x H (not b)) (g.named (child x b) pos) g.holds
        (λ i. g.reached i ∙ count i)
        (λ i f. g.frame i (count i ∙ sides_apart (L.get m) r s p c once b i f) ∙ agree (not b) i f)
        (λ i f. g.frame i (count i ∙ (let j : times (L.get m) (child x b) (c b) i ≡ 0 = omega (arith, times_child (L.get m) r s p c b i) in j)) ∙ root_frame Y i f)
        (g.rooms ∙ st.room_put m r Y)

    abbrev cut_on : Bool → Cut S
    cut_on d = cut_by L w m r H D d (λ m' j. cut L w k m' j D)

    -- a leaf that holds the route: nothing is left of it
    last_leaf : (s₁ : Bits) (p₁ : ℕ) (c₁ : Bool → Trie) → Holds w (L.get m) (path ++ (b ∷ [])) (child x b) (node s₁ p₁ c₁)
        → is_last D (L.get m (child x b)) ≡ true
        → (remove v (node s₁ p₁ c₁) ≡ leaf) × ((i : ℕ) → times (L.get m) (child x b) (node s₁ p₁ c₁) i ≡ hit (child x b) i)
    last_leaf s₁ p₁ c₁ held e =
        let x₁ : Row = L.get m (child x b) in
        let one = both (is_same D x₁ && eqb x₁.left 0) (eqb x₁.right 0) e in
        let two = both (is_same D x₁) (eqb x₁.left 0) one.0 in
        let l : c₁ false ≡ leaf = leaf_of_lem (L.get m) x₁.left (c₁ false) (held.below false).0 (eqb-true x₁.left 0 two.1) in
        let r₁ : c₁ true ≡ leaf = leaf_of_lem (L.get m) x₁.right (c₁ true) (held.below true).0 (eqb-true x₁.right 0 one.1) in
        let t : same v s₁ ≡ true =
        at_same w (path ++ (b ∷ [])) D.value D.len x₁.value x₁.len v s₁ (at_down w path D.value D.len b v lower)
        (row_at w (L.get m) (path ++ (b ∷ [])) (child x b) s₁ p₁ c₁ held)
        ∙ two.0 in
        let nothing : below (λ d. best (c₁ d)) ≡ none = rw (l, r₁) in
        (rw (t, nothing), λ i. rw (l, r₁) (let z : hit (child x b) i + (0 + 0) ≡ hit (child x b) i = omega arith in z))

    shrunk_by : (t : Trie) → c b ≡ t → Shrinks t → Shrunk m (cut_on b) path r (node s p c) y
    shrunk_by leaf cb g = absurd (there cb)
    shrunk_by (node s₁ p₁ c₁) cb g = by (is_last D (L.get m (child x b))) refl
      where
        pos : 0 < child x b
        pos = some_of (L.get m) (child x b) (c b) (h.below b).0 there

        held : Holds w (L.get m) (path ++ (b ∷ [])) (child x b) (node s₁ p₁ c₁)
        held = subst (Holds w (L.get m) (path ++ (b ∷ [])) (child x b)) cb (h.below b).1

        Y : Row
        Y = with_route x H

        m₁ : S
        m₁ = L.put m r Y

        agree : Agree (L.get m) (L.get m₁) (child x b) (node s₁ p₁ c₁)
        agree = subst (Agree (L.get m) (L.get m₁) (child x b)) cb (λ i f. st.get_other m r i Y (not_r b i f))

        count : (i : ℕ) → times (L.get m₁) (child x b) (node s₁ p₁ c₁) i ≡ times (L.get m) (child x b) (node s₁ p₁ c₁) i
        count i = times_frame (L.get m) (L.get m₁) (child x b) (node s₁ p₁ c₁) i agree

        one : Unique (L.get m) (child x b) (node s₁ p₁ c₁)
        one = subst (Unique (L.get m) (child x b)) cb (unique_child (L.get m) r s p c once b)

        lie : (i : ℕ) → 0 < times (L.get m) (child x b) (node s₁ p₁ c₁) i → i < L.room m
        lie = subst (λ (t : Trie). (i : ℕ) → 0 < times (L.get m) (child x b) t i → i < L.room m) cb (λ i f. lies i (omega (arith, times_child (L.get m) r s p c b i)))

        by : (l : Bool) → is_last D (L.get m (child x b)) ≡ l
            → Shrunk m (cond l (record { rows = L.put m r (with_child (with_route x H) b 0); freed = child x b }) (cut L w k m₁ (child x b) D)) path r (node s p c) y
        by true e =
            let f = last_leaf s₁ p₁ c₁ held e in
            shrunk_last (ap (remove v) cb ∙ f.0) (λ i. ap (λ (t : Trie). times (L.get m) (child x b) t i) cb ∙ f.1 i)
        by false e =
            let deeper : length (path ++ (b ∷ [])) + k ≡ w = omega (arith, length-append path (b ∷ []), deep) in
            let row_same : L.get m₁ (child x b) ≡ L.get m (child x b) = agree (child x b) (omega (arith, hit_same (child x b))) in
            shrunk_on pos
            (subst (λ (t : Trie). Shrunk m₁ (cut L w k m₁ (child x b) D) (path ++ (b ∷ [])) (child x b) t v) (sym cb)
            (g k (path ++ (b ∷ [])) m₁ (child x b) D v (side b (upd T s 0)) deeper (at_down w path D.value D.len b v lower)
            (holds_frame (L.get m) (L.get m₁) w (path ++ (b ∷ [])) (child x b) (node s₁ p₁ c₁) agree held)
            (λ i. omega (arith, count i, one i))
            (λ i f. rw (st.room_put m r Y) (lie i (omega (arith, count i))))
            (subst (λ (t : Trie). IsTrie t (side b (upd T s 0))) cb (rule.rest b))
            live
            (ap (is_last D) row_same ∙ e)))

    shrunk_step : Shrunk m (cut_on (bit_before D.value k)) path r (node s p c) y
    shrunk_step =
        subst (λ (d : Bool). Shrunk m (cut_on d) path r (node s p c) y) (sym (at_bit w path D.value D.len k b v lower (sym deep)))
        (shrunk_by (c b) refl (ih b))

  module _ (s : Bits) (p : ℕ) (c : Bool → Trie) (ih : (b : Bool) → Shrinks (c b)) where
    module _ (k : ℕ) (path : Bits) (m : S) (r : ℕ) (q : Route) (y : Bits) (T : Routes) (deep : length path + k ≡ w)
        (at : At w path q.value q.len y) (h : Holds w (L.get m) path r (node s p c)) (rule : IsTrie (node s p c) T) (live : 0 < T y)
        (more : is_last q (L.get m r) ≡ false) where
      is_same_lem : same y s ≡ is_same q (L.get m r)
      is_same_lem = at_same w path q.value q.len (L.get m r).value (L.get m r).len y s at (row_at w (L.get m) path r s p c h)

      -- a row that holds the route and is no leaf has a child
      has_child : same y s ≡ true → (b : Bool) × (c b ≡ leaf → ⊥)
      has_child e = by (way (eqb (L.get m r).left 0)) (way (eqb (L.get m r).right 0))
        where
          ne_leaf : (b : Bool) → eqb (child (L.get m r) b) 0 ≡ false → c b ≡ leaf → ⊥
          ne_leaf b f g = true≢false (sym (eq-eqb (child (L.get m r) b) 0 (subst (Names (child (L.get m r) b)) g (h.below b).0)) ∙ f)

          by : (eqb (L.get m r).left 0 ≡ true) ⊎ (eqb (L.get m r).left 0 ≡ false) → (eqb (L.get m r).right 0 ≡ true) ⊎ (eqb (L.get m r).right 0 ≡ false)
              → (b : Bool) × (c b ≡ leaf → ⊥)
          by (inr f) g = (false, ne_leaf false f)
          by (inl f) (inr g) = (true, ne_leaf true g)
          by (inl f) (inl g) =
              let t : is_last q (L.get m r) ≡ true = rw (sym is_same_lem ∙ e, f, g) in absurd (true≢false (sym t ∙ more))

    -- with no bit left, a row holds just its own prefix and has no child
    shrink_last : (path : Bits) (m : S) (r : ℕ) (q : Route) (y : Bits) (T : Routes) → length path + 0 ≡ w
        → At w path q.value q.len y → Holds w (L.get m) path r (node s p c) → IsTrie (node s p c) T → 0 < T y
        → is_last q (L.get m r) ≡ false → ⊥
    shrink_last path m r q y T deep at h rule live more =
        let e : same y s ≡ true =
        at_last w path q.value q.len (L.get m r).value (L.get m r).len y s deep at (row_at w (L.get m) path r s p c h) in
        let g = has_child 0 path m r q y T deep at h rule live more e in
        g.1 (too_deep w (L.get m) path (child (L.get m r) g.0) g.0 (c g.0) deep (h.below g.0).1)

    shrink_node : Shrinks (node s p c)
    unfolding cut
    shrink_node zero path m r q y T deep at h once lies rule live more = absurd (shrink_last path m r q y T deep at h rule live more)
    shrink_node (suc k) path m r q y T deep at h once lies rule live more = by (same y s) refl
      where
        x : Row
        x = L.get m r

        z : Route
        z = best_below w (L.get m) k x

        taken : Bool → Route
        taken a = cond a z q

        holder : Bool → Route
        holder a = cond a z (route_of x)

        stepped : Bool → Cut S
        stepped a = cut_by L w m r (holder a) (taken a) (bit_before (taken a).value k) (λ m' j. cut L w k m' j (taken a))

        other : (d : Bits) → y ≡ d → same y s ≡ false → Shrunk m (stepped false) path r (node s p c) y
        other [] f e = absurd (under_not_nil y s (λ g. true≢false (sym (rw g (same_refl s)) ∙ e)) (rule.top y live) f)
        other (b ∷ v) f e =
            shrunk_step s p c ih k path m r y T deep h once lies rule (route_of x) q s b v (route_row w (L.get m) path r s p c h)
            (subst (At w path q.value q.len) f at)
            (remove_other y s p c e ∙ ap₂ (λ (o : ℕ) (g : Bits). node s o (λ d. down d g (c d) (λ i. remove i (c d)))) (sym h.port) f)
            (rw (← f) (rw (upd_other T s y 0 e) live))

        by : (a : Bool) → same y s ≡ a → Shrunk m (stepped (is_same q x)) path r (node s p c) y
        by true e =
            let g = has_child (suc k) path m r q y T deep at h rule live more e in
            let l = leader w (L.get m) k path r s p c T deep h rule g.0 g.1 in
            subst (λ (a : Bool). Shrunk m (stepped a) path r (node s p c) y) (sym e ∙ is_same_lem (suc k) path m r q y T deep at h rule live more)
            (shrunk_step s p c ih k path m r y T deep h once lies rule z z (l.bit ∷ l.rest) l.bit l.rest l.at
            (at_of w path z (l.bit ∷ l.rest) l.at)
            (remove_same y s p c (l.bit ∷ l.rest) z.port e l.is)
            l.live)
        by false e =
            subst (λ (a : Bool). Shrunk m (stepped a) path r (node s p c) y) (sym e ∙ is_same_lem (suc k) path m r q y T deep at h rule live more)
            (other y refl e)

  shrink : (t : Trie) → Shrinks t
  shrink leaf = tt
  shrink (node s p c) = shrink_node s p c (λ b. shrink (c b))

  -- a route that is held, cut out of the rows from the root on
  pub cut_shrinks : (s : Bits) (p : ℕ) (c : Bool → Trie) → Shrinks (node s p c)
  cut_shrinks s p c = shrink (node s p c)
