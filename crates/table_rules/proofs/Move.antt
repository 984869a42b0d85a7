-- Row `last` moves to a free number, and its parent follows: the rows hold the same trie. Assumes nothing.
use mathlib.Core.Path.{◌≡◌, refl, sym, ap, ap₂, ◌∙◌, subst, subst₂}
use mathlib.Core.Logic.{◌⊎◌, inl, inr, ⊎_elim}
use mathlib.Core.Bool.{Bool, true, false, cond, not}
use mathlib.Core.List.{[], ◌∷◌, ◌++◌, append_assoc}
use Prim.Native.Nat.{ℕ, zero, suc, ◌+◌, ◌-◌, ◌<◌, ◌^◌}
use native.Mathlib.Omega.{arith}
use lib.Dec.{eqb}
use lib.ListN.{length, length-append}
use borrow.Author.Tests.{eqb-true, eqb-false}
use Rattle.bits.specs.Bits.{Bits, prefix_bits, bit_before}
use Rattle.bits.proofs.Bits.{bit_at}
use Rattle.lists.proofs.Tests.{way}
use Rattle.trie.specs.Trie.{Trie, leaf, node}
use Rattle.routes.specs.Routes.{ValidRoute}
use Rattle.routes.specs.declared.Route.{Route}
use Rattle.table_rules.specs.Rows.{Mem, Layout, Stores, child, route_of, row_bits, with_child}
use Rattle.table_rules.specs.Holds.{Names, Holds, hit, times}
use Rattle.table_rules.specs.Withdraw.{relink}
use Rattle.table_rules.specs.declared.Row.{Row}
use Rattle.table_rules.proofs.Holds.{hit_same, hit_other, times_child, too_deep}
use Rattle.table_rules.proofs.Frame.{Agree, times_frame, holds_frame, Unique, SideChanged, side_holds, side_times, unique_child, root_not_below, below_not_root, sides_apart}
use Rattle.table_rules.proofs.Announce.{with_own, with_other}

-- a row that is reached from a path has a valid route whose prefix begins with the path
pub record Reached (w : ℕ) (M : Mem) (path : Bits) (i : ℕ) : Type 0 where
  pub rest : Bits
  pub valid : ValidRoute w (route_of (M i))
  pub is : row_bits w (M i) ≡ path ++ rest

-- which side a row is reached through, if it is not the root
pub through : (M : Mem) (r : ℕ) (s : Bits) (p : ℕ) (c : Bool → Trie) (i : ℕ) → 0 < times M r (node s p c) i
    → (i ≡ r) ⊎ ((b : Bool) × (0 < times M (child (M r) b) (c b) i))
through M r s p c i h = by (way (eqb i r))
  where
    some_side : (a b : ℕ) → 0 < a + b → (0 < a) ⊎ (0 < b)
    some_side zero b k = inr (omega arith)
    some_side (suc a) b k = inl (omega arith)

    by : (eqb i r ≡ true) ⊎ (eqb i r ≡ false) → (i ≡ r) ⊎ ((b : Bool) × (0 < times M (child (M r) b) (c b) i))
    by (inl e) = inl (eqb-true i r e)
    by (inr e) =
        ⊎_elim
        (λ (k : 0 < times M (child (M r) false) (c false) i). inr (false, k))
        (λ (k : 0 < times M (child (M r) true) (c true) i). inr (true, k))
        (some_side (times M (child (M r) false) (c false) i) (times M (child (M r) true) (c true) i) (omega (arith, hit_other r i (eqb-false i r e))))

pub reached_at : (w : ℕ) (M : Mem) (path : Bits) (r : ℕ) (t : Trie) (i : ℕ) → Holds w M path r t → 0 < times M r t i → Reached w M path i
reached_at w M path r leaf i h k = absurd (omega arith)
reached_at w M path r (node s p c) i h k =
    by (through M r s p c i k) (λ b g. reached_at w M (path ++ (b ∷ [])) (child (M r) b) (c b) i (h.below b).1 g)
  where
    by : (i ≡ r) ⊎ ((b : Bool) × (0 < times M (child (M r) b) (c b) i))
        → ((b : Bool) → 0 < times M (child (M r) b) (c b) i → Reached w M (path ++ (b ∷ [])) i) → Reached w M path i
    by (inl e) down = subst (Reached w M path) (sym e) (record { rest = s; valid = h.valid; is = h.bits })
    by (inr g) down =
        let d = down g.0 g.1 in
        record { rest = g.0 ∷ d.rest; valid = d.valid; is = d.is ∙ append_assoc path (g.0 ∷ []) d.rest }

-- the node of row `last` is now in row f, with the same children
module _ (w : ℕ) (M Z : Mem) (last f : ℕ) where
  holds_moved : (path : Bits) (s : Bits) (p : ℕ) (c : Bool → Trie) → Z f ≡ M last → ((b : Bool) → Agree M Z (child (M last) b) (c b))
      → Holds w M path last (node s p c) → Holds w Z path f (node s p c)
  holds_moved path s p c e agree h =
      let x : M last ≡ Z f = sym e in
      record {
        valid = subst (λ (y : Row). ValidRoute w (route_of y)) x h.valid;
        bits = subst (λ (y : Row). row_bits w y ≡ path ++ s) x h.bits;
        port = subst (λ (y : Row). y.port ≡ p) x h.port;
        below = λ b.
            subst (λ (y : Row). Names (child y b) (c b) × Holds w Z (path ++ (b ∷ [])) (child y b) (c b)) x
            ((h.below b).0, holds_frame M Z w (path ++ (b ∷ [])) (child (M last) b) (c b) (agree b) (h.below b).1);
      }

  times_moved : (s : Bits) (p : ℕ) (c : Bool → Trie) → Z f ≡ M last → ((b : Bool) → Agree M Z (child (M last) b) (c b))
      → (i : ℕ) → times Z f (node s p c) i + hit last i ≡ times M last (node s p c) i + hit f i
  times_moved s p c e agree i =
      let side : ((b : Bool) → times Z (child (Z f) b) (c b) i ≡ times M (child (M last) b) (c b) i) =
      (λ b. ap (λ (y : Row). times Z (child y b) (c b) i) e ∙ times_frame M Z (child (M last) b) (c b) i (agree b)) in
      omega (arith, side false, side true)

module _ {S : Type 0} (L : Layout S) (w : ℕ) (st : Stores w L)
    (m : S) (last f : ℕ) (free : 0 < f) (apart : f ≡ last → ⊥) where
  -- the rows hold the same trie, with f in place of `last`
  pub record Moved (Z : Mem) (path : Bits) (r : ℕ) (t : Trie) : Type 0 where
    pub holds : Holds w Z path r t
    pub reached : (i : ℕ) → times Z r t i + hit last i ≡ times (L.get m) r t i + hit f i

  -- Z is what became of the rows s' once row `last` is copied to f
  pub record Copied (Z : Mem) (s' : S) : Type 0 where
    pub copy : Z f ≡ L.get s' last
    pub rest : (i : ℕ) → (i ≡ f → ⊥) → (i ≡ last → ⊥) → Z i ≡ L.get s' i

  abbrev v : ℕ
  v = (L.get m last).value

  pub record Relinked (s' : S) (path : Bits) (r : ℕ) (t : Trie) : Type 0 where
    pub frame : (i : ℕ) → times (L.get m) r t i ≡ 0 → L.get s' i ≡ L.get m i
    pub rooms : L.room s' ≡ L.room m
    pub low : (L.get s' last).value < 2 ^ w
    pub moved : (Z : Mem) → Copied Z s' → Moved Z path r t

  abbrev Relinks : Trie → Type 0
  Relinks leaf = Unit {0}
  Relinks (node s p c) =
      (k : ℕ) (path : Bits) (r : ℕ) → length path + k ≡ w → Holds w (L.get m) path r (node s p c) → Unique (L.get m) r (node s p c)
      → ((i : ℕ) → 0 < times (L.get m) r (node s p c) i → i < L.room m) → 0 < times (L.get m) r (node s p c) last → (r ≡ last → ⊥)
      → times (L.get m) r (node s p c) f ≡ 0 → Relinked (relink L w k m r v last f) path r (node s p c)

  module _ (s : Bits) (p : ℕ) (c : Bool → Trie) (k : ℕ) (path : Bits) (r : ℕ) (deep : length path + suc k ≡ w)
      (h : Holds w (L.get m) path r (node s p c)) (once : Unique (L.get m) r (node s p c))
      (lies : (i : ℕ) → 0 < times (L.get m) r (node s p c) i → i < L.room m) (ne : r ≡ last → ⊥) (off : times (L.get m) r (node s p c) f ≡ 0)
      (b : Bool) (there : 0 < times (L.get m) (child (L.get m r) b) (c b) last) where
    abbrev x : Row
    x = L.get m r

    r_lies : r < L.room m
    r_lies = lies r (omega (arith, hit_same r))

    r_not_f : r ≡ f → ⊥
    r_not_f e = omega (arith, hit_same r, ap (times (L.get m) r (node s p c)) e)

    side_bit : bit_before v k ≡ b
    side_bit =
        let d = reached_at w (L.get m) (path ++ (b ∷ [])) (child x b) (c b) last (h.below b).1 there in
        bit_at path w k (L.get m last).len v b d.rest (d.is ∙ append_assoc path (b ∷ []) d.rest) (sym deep)

    below_not_r : (d : Bool) (i : ℕ) → 0 < times (L.get m) (child x d) (c d) i → i ≡ r → ⊥
    below_not_r = below_not_root (L.get m) r s p c once

    below_not_f : (d : Bool) (i : ℕ) → 0 < times (L.get m) (child x d) (c d) i → i ≡ f → ⊥
    below_not_f d i g e = omega (arith, times_child (L.get m) r s p c d i, ap (times (L.get m) r (node s p c)) e)

    other_not_last : (i : ℕ) → 0 < times (L.get m) (child x (not b)) (c (not b)) i → i ≡ last → ⊥
    other_not_last i g e =
        let z : times (L.get m) (child x b) (c b) i ≡ 0 = sides_apart (L.get m) r s p c once b i g in
        omega (arith, ap (times (L.get m) (child x b) (c b)) e)

    -- put together from what became of side b
    put_together : (Z : Mem) (c' : ℕ) → route_of (Z r) ≡ route_of x → child (Z r) b ≡ c' → child (Z r) (not b) ≡ child x (not b)
        → Names c' (c b) → Holds w Z (path ++ (b ∷ [])) c' (c b)
        → ((i : ℕ) → times Z c' (c b) i + hit last i ≡ times (L.get m) (child x b) (c b) i + hit f i)
        → Agree (L.get m) Z (child x (not b)) (c (not b)) → Moved Z path r (node s p c)
    put_together Z c' route own other named holds count same-side =
        let change : SideChanged w (L.get m) Z path r s p c c b c' (c b) = record {
          valid = subst (ValidRoute w) (sym route) h.valid;
          bits = ap (λ (q : Route). prefix_bits w q.value q.len) route ∙ h.bits;
          port = ap (λ (q : Route). q.port) route ∙ h.port;
          own = own;
          named = named;
          holds = holds;
          own_is = refl;
          other = other;
          other_is = refl;
          other_same = same-side;
        } in
        record {
          holds = side_holds w (L.get m) Z path r s s p p c c b c' (c b) h change;
          reached = λ i. omega (arith, side_times w (L.get m) Z path r s s p p c c b c' (c b) h change i, count i);
        }

    -- the child is the row that moves
    relinked_here : child x b ≡ last → Relinked (L.put m r (with_child x b f)) path r (node s p c)
    relinked_here e = by (c b) refl
      where
        Y : Row
        Y = with_child x b f

        s' : S
        s' = L.put m r Y

        by : (t : Trie) → c b ≡ t → Relinked s' path r (node s p c)
        by leaf cb = absurd (omega (arith, ap (λ (t : Trie). times (L.get m) (child x b) t last) cb, there))
        by (node s₁ p₁ c₁) cb = record {
          frame = λ i g. st.get_other m r i Y (λ z. omega (arith, hit_same r, ap (times (L.get m) r (node s p c)) z));
          rooms = st.room_put m r Y;
          low = low;
          moved = λ Z z. placed Z z;
        }
          where
            held : Holds w (L.get m) (path ++ (b ∷ [])) last (node s₁ p₁ c₁)
            held = subst₂ (λ (j : ℕ) (t : Trie). Holds w (L.get m) (path ++ (b ∷ [])) j t) e cb (h.below b).1

            low : (L.get s' last).value < 2 ^ w
            low = subst (λ (g : Row). g.value < 2 ^ w) (sym (st.get_other m r last Y (λ g. ne (sym g)))) held.valid.prefix.fits

            count : (i : ℕ) → times (L.get m) (child x b) (c b) i ≡ times (L.get m) last (node s₁ p₁ c₁) i
            count i = ap₂ (λ (j : ℕ) (t : Trie). times (L.get m) j t i) e cb

            one : Unique (L.get m) last (node s₁ p₁ c₁)
            one i = omega (arith, count i, unique_child (L.get m) r s p c once b i)

            placed : (Z : Mem) → Copied Z s' → Moved Z path r (node s p c)
            placed Z z =
                let at-r : Z r ≡ Y = z.rest r r_not_f ne ∙ st.get_same m r Y r_lies h.valid.prefix.fits in
                let at_f : Z f ≡ L.get m last = z.copy ∙ st.get_other m r last Y (λ g. ne (sym g)) in
                let deeper : ((d : Bool) → Agree (L.get m) Z (child (L.get m last) d) (c₁ d)) =
                (λ d i g.
                let up : 0 < times (L.get m) (child x b) (c b) i = omega (arith, count i, times_child (L.get m) last s₁ p₁ c₁ d i) in
                let not_last : (i ≡ last → ⊥) =
                (λ q. omega (arith, root_not_below (L.get m) last s₁ p₁ c₁ one d, ap (times (L.get m) (child (L.get m last) d) (c₁ d)) q)) in
                z.rest i (below_not_f b i up) not_last ∙ st.get_other m r i Y (below_not_r b i up)) in
                put_together Z f (ap route_of at-r) (ap (λ (g : Row). child g b) at-r ∙ with_own x b f)
                (ap (λ (g : Row). child g (not b)) at-r ∙ with_other x b f)
                (subst (Names f) (sym cb) free)
                (subst (Holds w Z (path ++ (b ∷ [])) f) (sym cb) (holds_moved w (L.get m) Z last f (path ++ (b ∷ [])) s₁ p₁ c₁ at_f deeper held))
                (λ i. ap (λ (t : Trie). times Z f t i + hit last i) cb ∙ times_moved w (L.get m) Z last f s₁ p₁ c₁ at_f deeper i ∙ ap (λ (j : ℕ). j + hit f i) (sym (count i)))
                (λ i g. z.rest i (below_not_f (not b) i g) (other_not_last i g) ∙ st.get_other m r i Y (below_not_r (not b) i g))

    -- the row that moves is further down
    relinked_on : (s' : S) → Relinked s' (path ++ (b ∷ [])) (child x b) (c b) → Relinked s' path r (node s p c)
    relinked_on s' g = record {
      frame = λ i d. g.frame i (omega (arith, times_child (L.get m) r s p c b i));
      rooms = g.rooms;
      low = g.low;
      moved = λ Z z.
          let at-r : Z r ≡ x = z.rest r r_not_f ne ∙ g.frame r (root_not_below (L.get m) r s p c once b) in
          let q = g.moved Z z in
          put_together Z (child x b) (ap route_of at-r) (ap (λ (d : Row). child d b) at-r) (ap (λ (d : Row). child d (not b)) at-r) (h.below b).0
          q.holds q.reached
          (λ i d. z.rest i (below_not_f (not b) i d) (other_not_last i d) ∙ g.frame i (sides_apart (L.get m) r s p c once b i d));
    }

  module _ (s : Bits) (p : ℕ) (c : Bool → Trie) (ih : (b : Bool) → Relinks (c b)) where
    relink_node : Relinks (node s p c)
    unfolding relink
    relink_node zero path r deep h once lies there ne off = absurd (none (through (L.get m) r s p c last there))
      where
        none : (last ≡ r) ⊎ ((b : Bool) × (0 < times (L.get m) (child (L.get m r) b) (c b) last)) → ⊥
        none (inl e) = ne (sym e)
        none (inr g) =
            let j : ℕ = child (L.get m r) g.0 in
            let e : c g.0 ≡ leaf = too_deep w (L.get m) path j g.0 (c g.0) deep (h.below g.0).1 in
            omega (arith, ap (λ (t : Trie). times (L.get m) j t last) e, g.1)
    relink_node (suc k) path r deep h once lies there ne off = by (through (L.get m) r s p c last there)
      where
        x : Row
        x = L.get m r

        stepped : Bool → S
        stepped d = cond (eqb (child x d) last) (L.put m r (with_child x d f)) (relink L w k m (child x d) v last f)

        on : (b : Bool) → 0 < times (L.get m) (child x b) (c b) last → Relinked (stepped b) path r (node s p c)
        on b g = at (way (eqb (child x b) last))
          where
            down : (t : Trie) → c b ≡ t → Relinks t → (child x b ≡ last → ⊥) → Relinked (relink L w k m (child x b) v last f) (path ++ (b ∷ [])) (child x b) (c b)
            down leaf cb i n = absurd (omega (arith, ap (λ (t : Trie). times (L.get m) (child x b) t last) cb, g))
            down (node s₁ p₁ c₁) cb i n =
                subst (λ (t : Trie). Relinked (relink L w k m (child x b) v last f) (path ++ (b ∷ [])) (child x b) t) (sym cb)
                (i k (path ++ (b ∷ [])) (child x b) (omega (arith, length-append path (b ∷ []), deep))
                (subst (Holds w (L.get m) (path ++ (b ∷ [])) (child x b)) cb (h.below b).1)
                (subst (Unique (L.get m) (child x b)) cb (unique_child (L.get m) r s p c once b))
                (subst (λ (t : Trie). (j : ℕ) → 0 < times (L.get m) (child x b) t j → j < L.room m) cb (λ j d. lies j (omega (arith, times_child (L.get m) r s p c b j))))
                (subst (λ (t : Trie). 0 < times (L.get m) (child x b) t last) cb g) n
                (subst (λ (t : Trie). times (L.get m) (child x b) t f ≡ 0) cb (omega (arith, times_child (L.get m) r s p c b f, off))))

            at : (eqb (child x b) last ≡ true) ⊎ (eqb (child x b) last ≡ false) → Relinked (stepped b) path r (node s p c)
            at (inl e) =
                subst (λ (y : S). Relinked y path r (node s p c)) (sym (rw e))
                (relinked_here s p c k path r deep h once lies ne off b g (eqb-true (child x b) last e))
            at (inr e) =
                subst (λ (y : S). Relinked y path r (node s p c)) (sym (rw e))
                (relinked_on s p c k path r deep h once lies ne off b g (relink L w k m (child x b) v last f) (down (c b) refl (ih b) (eqb-false (child x b) last e)))

        by : (last ≡ r) ⊎ ((b : Bool) × (0 < times (L.get m) (child x b) (c b) last)) → Relinked (stepped (bit_before v k)) path r (node s p c)
        by (inl e) = absurd (ne (sym e))
        by (inr g) =
            subst (λ (d : Bool). Relinked (stepped d) path r (node s p c)) (sym (side_bit s p c k path r deep h once lies ne off g.0 g.1))
            (on g.0 g.1)

  relinks : (t : Trie) → Relinks t
  relinks leaf = tt
  relinks (node s p c) = relink_node s p c (λ b. relinks (c b))

  pub relink_moves : (s : Bits) (p : ℕ) (c : Bool → Trie) → Relinks (node s p c)
  relink_moves s p c = relinks (node s p c)
