-- What the steps of a call do to the children of each row, told row by row, with no word of a trie. Assumes nothing.
use mathlib.Core.Path.{◌≡◌, refl, sym, ap, ◌∙◌, subst}
use mathlib.Core.Logic.{◌⊎◌, inl, inr, ⊎_elim}
use mathlib.Core.Bool.{Bool, true, false, cond, not, ◌&&◌}
use mathlib.Core.List.{[], ◌∷◌, ◌++◌}
use Prim.Native.Nat.{ℕ, zero, suc, ◌-◌, ◌^◌, ◌<◌, ◌≤◌}
use native.Mathlib.Omega.{arith}
use lib.Pow.{pow_pos}
use lib.Dec.{eqb, ltb}
use borrow.Author.Tests.{eqb-true, eqb-false, lt-ltb}
use Rattle.lists.proofs.Tests.{way, both}
use Rattle.bits.specs.Bits.{Bits, bit_before}
use Rattle.bits.specs.Prefix.{ahead_of}
use Rattle.trie.specs.Routes.{Routes}
use Rattle.trie.specs.Trie.{Trie, leaf, node}
use Rattle.routes.specs.Routes.{no_route}
use Rattle.routes.specs.declared.Route.{Route}
use Rattle.table_rules.specs.Rows.{Mem, Layout, Stores, child, route_of, leaf_row, with_route, with_child}
use Rattle.table_rules.specs.Holds.{Holds, times, Placed}
use Rattle.table_rules.specs.Announce.{is_same, outranks_row, sink}
use Rattle.table_rules.specs.Withdraw.{or_route, first_route, best_at, best_child, best_below, is_last, Cut, cut, relink}
use Rattle.table_rules.specs.declared.Row.{Row}
use Rattle.table_rules.proofs.Holds.{Below, below_child, below_once, child_lt}
use Rattle.table_rules.proofs.Frame.{side_of}
use Rattle.table_rules.proofs.Announce.{with_own, with_other, route_keeps}
use Rattle.table_rules.proofs.Move.{through, reached_at}
use Rattle.table_rules.proofs.Closed.{by_cond}

-- the rows below n name rows below n, and their values have w bits
pub record Tidy (w : ℕ) (M : Mem) (n : ℕ) : Type 0 where
  pub closed : (i : ℕ) → i < n → (b : Bool) → child (M i) b < n
  pub low : (i : ℕ) → i < n → (M i).value < 2 ^ w

reached_closed : (w : ℕ) (M : Mem) (path : Bits) (r : ℕ) (t : Trie) (n : ℕ) → Holds w M path r t → Below M r t n
    → (i : ℕ) → 0 < times M r t i → (b : Bool) → child (M i) b < n
reached_closed w M path r leaf n h low i k b = absurd (omega arith)
reached_closed w M path r (node s p c) n h low i k b =
    by (through M r s p c i k) (λ d g. reached_closed w M (path ++ (d ∷ [])) (child (M r) d) (c d) n (h.below d).1 (below_child M r s p c n d low) i g b)
  where
    by : (i ≡ r) ⊎ ((d : Bool) × (0 < times M (child (M r) d) (c d) i))
        → ((d : Bool) → 0 < times M (child (M r) d) (c d) i → child (M i) b < n) → child (M i) b < n
    by (inl e) down = subst (λ (j : ℕ). child (M j) b < n) (sym e) (child_lt w M path r s p c n h low b)
    by (inr g) down = down g.0 g.1

pub placed_tidy : (w : ℕ) (M : Mem) (n : ℕ) (S : Routes) → Placed w M n S → Tidy w M n
placed_tidy w M n S h = record {
  closed = λ i k. reached_closed w M [] 0 h.trie n h.holds (below_once M h.trie n h.once) i (there i k);
  low = λ i k. (reached_at w M [] 0 h.trie i h.holds (there i k)).valid.prefix.fits;
}
  where
    there : (i : ℕ) → i < n → 0 < times M 0 h.trie i
    there i k = let z : times M 0 h.trie i ≡ 1 = h.once i ∙ ap (λ (e : Bool). cond e 1 0) (lt-ltb i n k) in omega arith

-- a route whose value has w bits
abbrev pub Low : ℕ → Route → Type 0
Low w q = q.value < 2 ^ w

-- the best route below a row is one of the rows', or none
module _ (w : ℕ) (M : Mem) (n : ℕ) (tidy : Tidy w M n) where
  first_low : (a b : Route) → Low w a → Low w b → Low w (first_route a b)
  first_low a b h k =
      by_cond (Low w) (eqb b.port 0) _ _ (λ e. h)
      (λ e.
      by_cond (Low w) (eqb a.port 0) _ _ (λ f. k)
      (λ f. by_cond (Low w) (ahead_of b.value b.len a.value a.len) _ _ (λ g. k) (λ g. h)))

  pick_low : (c : ℕ) (q : Route) → (eqb c 0 ≡ false → Low w q) → Low w (cond (eqb c 0) no_route q)
  pick_low c q h = by_cond (Low w) (eqb c 0) no_route q (λ e. pow_pos w) h

  best_low : (k r : ℕ) → r < n → Low w (best_at w M k r)
  unfolding best_at
  best_low zero r h = tidy.low r h
  best_low (suc k) r h =
      let own : Low w (route_of (M r)) = tidy.low r h in
      let a : Route = cond (eqb (M r).left 0) no_route (best_at w M k (M r).left) in
      let b : Route = cond (eqb (M r).right 0) no_route (best_at w M k (M r).right) in
      let first : Low w (first_route a b) =
      first_low a b (pick_low (M r).left (best_at w M k (M r).left) (λ e. best_low k (M r).left (tidy.closed r h false)))
      (pick_low (M r).right (best_at w M k (M r).right) (λ e. best_low k (M r).right (tidy.closed r h true))) in
      by_cond (Low w) (ltb (w - suc k) (M r).len) (route_of (M r)) (or_route (first_route a b) (route_of (M r))) (λ e. own)
      (λ e. by_cond (Low w) (eqb (first_route a b).port 0) (route_of (M r)) (first_route a b) (λ f. own) (λ f. first))

  below_low : (k r : ℕ) → r < n → Low w (best_below w M k (M r))
  below_low k r h =
      first_low (best_child w M k (M r).left) (best_child w M k (M r).right)
      (pick_low (M r).left (best_at w M k (M r).left) (λ e. best_low k (M r).left (tidy.closed r h false)))
      (pick_low (M r).right (best_at w M k (M r).right) (λ e. best_low k (M r).right (tidy.closed r h true)))

pub no_child : (q : Route) (d : Bool) → child (leaf_row q) d ≡ 0
no_child q true = refl
no_child q false = refl

-- a leaf that holds a route has no child
bare : (D : Route) (x : Row) → is_last D x ≡ true → (d : Bool) → child x d ≡ 0
bare D x e d =
    let one = both (is_same D x && eqb x.left 0) (eqb x.right 0) e in
    let two = both (is_same D x) (eqb x.left 0) one.0 in
    go d (eqb-true x.left 0 two.1) (eqb-true x.right 0 one.1)
  where
    go : (d : Bool) → x.left ≡ 0 → x.right ≡ 0 → child x d ≡ 0
    go true l r = r
    go false l r = l

-- a child is as it was; or there was none, and it is row n, which has none itself where there is room for it
abbrev pub Link : Mem → Mem → ℕ → ℕ → ℕ → Bool → Type 0
Link M M' n room i b =
    (child (M' i) b ≡ child (M i) b) ⊎ ((child (M i) b ≡ 0) × (child (M' i) b ≡ n) × (n < room → (d : Bool) → child (M' n) d ≡ 0))

module _ {S : Type 0} (L : Layout S) (w : ℕ) (st : Stores w L) where
  -- what holds of the stored row and of all others holds of every row
  by_put : (m : S) (r : ℕ) (Y : Row) → r < L.room m → Y.value < 2 ^ w → (P : ℕ → Row → Type 0)
      → P r Y → ((i : ℕ) → P i (L.get m i)) → (i : ℕ) → P i (L.get (L.put m r Y) i)
  by_put m r Y h k P here other i =
      ⊎_elim
      (λ (e : eqb i r ≡ true).
      let z : i ≡ r = eqb-true i r e in
      subst (P i) (sym (ap (L.get (L.put m r Y)) z ∙ st.get_same m r Y h k)) (subst (λ (j : ℕ). P j Y) (sym z) here))
      (λ (e : eqb i r ≡ false). subst (P i) (sym (st.get_other m r i Y (eqb-false i r e))) (other i))
      (way (eqb i r))

  -- another route in a row leaves all children
  pub route_put : (m : S) (r : ℕ) (q : Route) → r < L.room m → Low w q → (i : ℕ) (b : Bool)
      → child (L.get (L.put m r (with_route (L.get m r) q)) i) b ≡ child (L.get m i) b
  route_put m r q h k i b =
      by_put m r (with_route (L.get m r) q) h k (λ j x. child x b ≡ child (L.get m j) b) (route_keeps (L.get m r) q b) (λ j. refl) i

  -- a row with another route, and another child on one side
  child_put : (m : S) (r : ℕ) (q : Route) (b : Bool) (c : ℕ) → r < L.room m → Low w q → (P : ℕ → Bool → ℕ → Type 0)
      → P r b c → ((i : ℕ) (d : Bool) → P i d (child (L.get m i) d))
      → (i : ℕ) (d : Bool) → P i d (child (L.get (L.put m r (with_child (with_route (L.get m r) q) b c)) i) d)
  child_put m r q b c h k P here other i d =
      by_put m r (with_child (with_route (L.get m r) q) b c) h k (λ j x. P j d (child x d))
      (⊎_elim
      (λ (f : d ≡ b). subst (λ (g : Bool). P r g (child Y g)) (sym f) (subst (P r b) (sym (with_own (with_route (L.get m r) q) b c)) here))
      (λ (f : d ≡ not b).
      subst (λ (g : Bool). P r g (child Y g)) (sym f)
      (subst (P r (not b)) (sym (with_other (with_route (L.get m r) q) b c ∙ route_keeps (L.get m r) q (not b))) (other r (not b))))
      (side_of d b))
      (λ j. other j d) i
    where
      Y : Row
      Y = with_child (with_route (L.get m r) q) b c

  -- another route in a row leaves the rows tidy
  tidy_route : (m : S) (n r : ℕ) (q : Route) → Tidy w (L.get m) n → r < n → n ≤ L.room m → Low w q
      → Tidy w (L.get (L.put m r (with_route (L.get m r) q))) n
  tidy_route m n r q tidy h lies k = record {
    closed = λ i l d. rw (route_put m r q (omega arith) k i d) (tidy.closed i l d);
    low = λ i. by_put m r (with_route (L.get m r) q) (omega arith) k (λ j x. j < n → x.value < 2 ^ w) (λ _. k) tidy.low i;
  }

  -- an announcement

  abbrev pub Linked : S → ℕ → S → Type 0
  Linked m n m' = (i : ℕ) → (i ≡ n → ⊥) → (b : Bool) → Link (L.get m) (L.get m') n (L.room m) i b

  -- the new row is linked from where there was no child
  linked_here : (m : S) (n r : ℕ) (U D : Route) (b : Bool) → r < L.room m → Low w U → Low w D → child (L.get m r) b ≡ 0
      → Linked m n (L.put (L.put m r (with_child (with_route (L.get m r) U) b n)) n (leaf_row D))
  linked_here m n r U D b h u v none i ne d =
      let Y : Row = with_child (with_route (L.get m r) U) b n in
      let m₁ : S = L.put m r Y in
      let m₂ : S = L.put m₁ n (leaf_row D) in
      let alone : (n < L.room m → (g : Bool) → child (L.get m₂ n) g ≡ 0) =
      (λ fits g.
      let n-fits : n < L.room m₁ = rw (st.room_put m r Y) fits in
      ap (λ (x : Row). child x g) (st.get_same m₁ n (leaf_row D) n-fits v) ∙ no_child D g) in
      subst
      (λ (x : Row). (child x d ≡ child (L.get m i) d) ⊎ ((child (L.get m i) d ≡ 0) × (child x d ≡ n) × (n < L.room m → (g : Bool) → child (L.get m₂ n) g ≡ 0)))
      (sym (st.get_other m₁ n i (leaf_row D) ne))
      (child_put m r U b n h u
      (λ j g c. (c ≡ child (L.get m j) g) ⊎ ((child (L.get m j) g ≡ 0) × (c ≡ n) × (n < L.room m → (f : Bool) → child (L.get m₂ n) f ≡ 0)))
      (inr (none, refl, alone)) (λ j g. inl refl) i d)

  -- after another route in a row
  linked_on : (m : S) (n r : ℕ) (U : Route) (m' : S) → r < L.room m → Low w U → Linked (L.put m r (with_route (L.get m r) U)) n m' → Linked m n m'
  linked_on m n r U m' h u on i ne d =
      let same : child (L.get (L.put m r (with_route (L.get m r) U)) i) d ≡ child (L.get m i) d = route_put m r U h u i d in
      ⊎_elim (λ e. inl (e ∙ same)) (λ e. inr (sym same ∙ e.0, e.1, λ fits. e.2 (rw (st.room_put m r (with_route (L.get m r) U)) fits))) (on i ne d)

  pub sink_links : (k : ℕ) (m : S) (n r : ℕ) (q : Route) → Tidy w (L.get m) n → r < n → n ≤ L.room m → Low w q → Linked m n (sink L w k m n r q)
  unfolding sink
  sink_links zero m n r q tidy low lies fits =
      by_cond (Linked m n) (is_same q (L.get m r)) _ _ (λ e i ne b. inl (route_put m r q (omega arith) fits i b)) (λ e i ne b. inl refl)
  sink_links (suc k) m n r q tidy low lies fits =
      let x : Row = L.get m r in
      let o : Bool = outranks_row (w - suc k) q x in
      let U : Route = cond o q (route_of x) in
      let D : Route = cond o (route_of x) q in
      let b : Bool = bit_before D.value k in
      let m₁ : S = L.put m r (with_route x U) in
      let u : Low w U = by_cond (Low w) o _ _ (λ e. fits) (λ e. tidy.low r low) in
      let v : Low w D = by_cond (Low w) o _ _ (λ e. tidy.low r low) (λ e. fits) in
      by_cond (Linked m n) (is_same q x) _ _ (λ e i ne d. inl (route_put m r q (omega arith) fits i d))
      (λ e.
      by_cond (Linked m n) (eqb (child x b) 0) _ _ (λ f. linked_here m n r U D b (omega arith) u v (eqb-true (child x b) 0 f))
      (λ f.
      linked_on m n r U (sink L w k m₁ n (child x b) D) (omega arith) u
      (sink_links k m₁ n (child x b) D (tidy_route m n r U tidy low lies u) (tidy.closed r low b) (rw (st.room_put m r (with_route x U)) lies) v)))

  -- a withdrawal

  -- a child is as it was; or it was the row that fell away, which has none, and there is none
  abbrev pub Cuts : S → Cut S → Type 0
  Cuts m z = (i : ℕ) (d : Bool) → Link (L.get z.rows) (L.get m) z.freed (L.room m) i d

  pub cut_links : (k : ℕ) (m : S) (n r : ℕ) (q : Route) → Tidy w (L.get m) n → r < n → n ≤ L.room m → Low w q
      → Cuts m (cut L w k m r q) × Tidy w (L.get (cut L w k m r q).rows) n
  unfolding cut
  cut_links zero m n r q tidy low lies fits = (λ i d. inl refl, tidy)
  cut_links (suc k) m n r q tidy low lies fits =
      let x : Row = L.get m r in
      let z : Route = best_below w (L.get m) k x in
      let D : Route = cond (is_same q x) z q in
      let H : Route = cond (is_same q x) z (route_of x) in
      let b : Bool = bit_before D.value k in
      let f : ℕ = child x b in
      let m₁ : S = L.put m r (with_route x H) in
      let z-low : Low w z = below_low w (L.get m) n tidy k r low in
      let u : Low w H = by_cond (Low w) (is_same q x) _ _ (λ e. z-low) (λ e. tidy.low r low) in
      let v : Low w D = by_cond (Low w) (is_same q x) _ _ (λ e. z-low) (λ e. fits) in
      let same : ((i : ℕ) (d : Bool) → child (L.get m₁ i) d ≡ child (L.get m i) d) = route_put m r H (omega arith) u in
      by_cond (λ (y : Cut S). Cuts m y × Tidy w (L.get y.rows) n) (is_last D (L.get m f)) _ _
      (λ e. (
        child_put m r H b 0 (omega arith) u
            (λ i d c. (child (L.get m i) d ≡ c) ⊎ ((c ≡ 0) × (child (L.get m i) d ≡ f) × (f < L.room m → (g : Bool) → child (L.get m f) g ≡ 0)))
            (inr (refl, refl, λ _. bare D (L.get m f) e)) (λ i d. inl refl),
        record {
          closed = λ i l d. child_put m r H b 0 (omega arith) u (λ j g c. j < n → c < n) (λ _. omega arith) (λ j g h. tidy.closed j h g) i d l;
          low = λ i. by_put m r (with_child (with_route x H) b 0) (omega arith) u (λ j y. j < n → y.value < 2 ^ w) (λ _. u) tidy.low i;
        },
      ))
      (λ e.
      let y : Cut S = cut L w k m₁ f D in
      let on = cut_links k m₁ n f D (tidy_route m n r H tidy low lies u) (tidy.closed r low b) (rw (st.room_put m r (with_route x H)) lies) v in (
        λ i d.
            ⊎_elim
            (λ h. inl (sym (same i d) ∙ h))
            (λ h. inr (h.0, sym (same i d) ∙ h.1, λ room g. sym (same y.freed g) ∙ h.2 (rw (st.room_put m r (with_route x H)) room) g))
            (on.0 i d),
        on.1,
      ))

  -- a child is as it was; or it was `last`, and is f
  abbrev pub Moves : S → ℕ → ℕ → S → Type 0
  Moves m last f m' = (i : ℕ) (d : Bool) → (child (L.get m' i) d ≡ child (L.get m i) d) ⊎ ((child (L.get m i) d ≡ last) × (child (L.get m' i) d ≡ f))

  pub relink_links : (k : ℕ) (m : S) (n r v last f : ℕ) → Tidy w (L.get m) n → r < n → n ≤ L.room m → f < n
      → Moves m last f (relink L w k m r v last f) × Tidy w (L.get (relink L w k m r v last f)) n
  unfolding relink
  relink_links zero m n r v last f tidy low lies fits = (λ i d. inl refl, tidy)
  relink_links (suc k) m n r v last f tidy low lies fits =
      let b : Bool = bit_before v k in
      let j : ℕ = child (L.get m r) b in
      let own : Low w (route_of (L.get m r)) = tidy.low r low in
      by_cond (λ (s : S). Moves m last f s × Tidy w (L.get s) n) (eqb j last) _ _
      (λ e. (
        child_put m r (route_of (L.get m r)) b f (omega arith) own (λ i d c. (c ≡ child (L.get m i) d) ⊎ ((child (L.get m i) d ≡ last) × (c ≡ f)))
            (inr (eqb-true j last e, refl)) (λ i d. inl refl),
        record {
          closed = λ i l d. child_put m r (route_of (L.get m r)) b f (omega arith) own (λ h g c. h < n → c < n) (λ _. fits) (λ h g l'. tidy.closed h l' g) i d l;
          low = λ i. by_put m r (with_child (L.get m r) b f) (omega arith) own (λ h y. h < n → y.value < 2 ^ w) (λ _. own) tidy.low i;
        },
      ))
      (λ e. relink_links k m n j v last f tidy (tidy.closed r low b) lies fits)
