-- A withdrawal keeps the rows of the places that stay, but that row n-1 moves to the freed number. Assumes nothing.
use mathlib.Core.Path.{◌≡◌, refl, sym, ap, ap₂, ◌∙◌, subst}
use mathlib.Core.Logic.{◌⊎◌, inl, ⊎_elim}
use mathlib.Core.Bool.{Bool, true, false, cond, not}
use mathlib.Core.List.{[], ◌∷◌, ◌++◌}
use Prim.Native.Nat.{ℕ, ◌+◌, ◌-◌, ◌<◌, ◌≤◌}
use native.Mathlib.Omega.{arith}
use lib.Dec.{eqb, ltb}
use borrow.Author.Tests.{eq-eqb, ne_eqb, eqb-true, eqb-false, lt-ltb}
use Rattle.lists.proofs.Tests.{way}
use Rattle.bits.specs.Bits.{Bits, prefix_bits}
use Rattle.bits.specs.Prefix.{Valid}
use Rattle.trie.specs.Routes.{Routes, upd}
use Rattle.trie.specs.Trie.{Trie, leaf, node, IsTrie}
use Rattle.trie.specs.Update.{remove}
use Rattle.trie.proofs.Rule.{trie_unique}
use Rattle.trie.proofs.Remove.{remove_is}
use Rattle.routes.specs.declared.Route.{Route}
use Rattle.table_rules.specs.Rows.{Mem, Layout, Stores, child, row_of}
use Rattle.table_rules.specs.Holds.{Holds, hit, times}
use Rattle.table_rules.specs.Withdraw.{zero_row, Cut, cut, relink, move_row, close_gap, withdrawn}
use Rattle.table_rules.specs.declared.Row.{Row}
use Rattle.table_rules.proofs.Holds.{hit_same, times_child, Below, below_root, below_child, below_once}
use Rattle.table_rules.proofs.Frame.{Unique, side_of, unique_child, root_not_below, sides_apart}
use Rattle.table_rules.proofs.Withdraw.{Shrunk}
use Rattle.table_rules.proofs.Closed.{by_cond, cut_room, relink_room}
use Rattle.table_rules.proofs.Move.{through}
use Rattle.table_rules.proofs.Table.{shrunk}
use Rattle.table_places.specs.Places.{HasPlace, moved_to, PlacesShrink}
use Rattle.table_places.specs.Theorems.{WithdrawnPlaces}
use Rattle.table_places.proofs.Links.{Tidy, placed_tidy, Link, cut_links, relink_links}
use Rattle.table_places.proofs.Grow.{no_place, root_there, kept, new}

-- places and rows that are reached

place_reached : (M : Mem) (t : Trie) (r : ℕ) (at : Bits) → HasPlace t at → 0 < times M r t (row_of M r at)
place_reached M leaf r at place = absurd place
place_reached M (node s p c) r [] place = omega (arith, hit_same r)
place_reached M (node s p c) r (b ∷ at) place =
    omega (arith, place_reached M (c b) (child (M r) b) at place, times_child M r s p c b (row_of M (child (M r) b) at))

pub record PlaceOf (M : Mem) (t : Trie) (r i : ℕ) : Type 0 where
  pub at : Bits
  pub there : HasPlace t at
  pub is : row_of M r at ≡ i

place_of : (M : Mem) (t : Trie) (r i : ℕ) → 0 < times M r t i → PlaceOf M t r i
place_of M leaf r i h = absurd (omega arith)
place_of M (node s p c) r i h =
    ⊎_elim
    (λ (e : i ≡ r). record { at = []; there = tt; is = sym e })
    (λ (d : (b : Bool) × (0 < times M (child (M r) b) (c b) i)).
    let o = place_of M (c d.0) (child (M r) d.0) i d.1 in
    record { at = d.0 ∷ o.at; there = o.there; is = o.is })
    (through M r s p c i h)

-- two places have two rows
one_place : (M : Mem) (t : Trie) (r : ℕ) → Unique M r t → (at at' : Bits) → HasPlace t at → HasPlace t at' → row_of M r at ≡ row_of M r at' → at ≡ at'
one_place M leaf r once at at' place place' e = absurd place
one_place M (node s p c) r once [] [] place place' e = refl
one_place M (node s p c) r once [] (b ∷ at') place place' e =
    let j : ℕ = child (M r) b in
    absurd (omega (arith, root_not_below M r s p c once b, ap (times M j (c b)) e, place_reached M (c b) j at' place'))
one_place M (node s p c) r once (b ∷ at) [] place place' e =
    let j : ℕ = child (M r) b in
    absurd (omega (arith, root_not_below M r s p c once b, ap (times M j (c b)) (sym e), place_reached M (c b) j at place))
one_place M (node s p c) r once (b ∷ at) (b' ∷ at') place place' e =
    ⊎_elim
    (λ (f : b' ≡ b).
    let same : row_of M (child (M r) b) at ≡ row_of M (child (M r) b) at' = e ∙ ap (λ (d : Bool). row_of M (child (M r) d) at') f in
    ap₂ (λ (d : Bool) (x : Bits). d ∷ x) (sym f)
    (one_place M (c b) (child (M r) b) (unique_child M r s p c once b) at at' place (subst (λ (d : Bool). HasPlace (c d) at') f place') same))
    (λ (f : b' ≡ not b).
    let j : ℕ = child (M r) (not b) in
    let i : ℕ = row_of M (child (M r) b) at in
    let is : i ≡ row_of M j at' = e ∙ ap (λ (d : Bool). row_of M (child (M r) d) at') f in
    let here : 0 < times M (child (M r) b) (c b) i = place_reached M (c b) (child (M r) b) at place in
    let there : 0 < times M j (c (not b)) (row_of M j at') =
    place_reached M (c (not b)) j at' (subst (λ (d : Bool). HasPlace (c d) at') f place') in
    absurd (omega (arith, sides_apart M r s p c once b i (subst (λ (x : ℕ). 0 < times M j (c (not b)) x) (sym is) there), here)))
    (side_of b' b)

-- row `last` is now f, and no row names it

moved_no : (last f i : ℕ) → (i ≡ last → ⊥) → moved_to last f i ≡ i
moved_no last f i ne = rw (ne_eqb i last ne)

moved_yes : (last f i : ℕ) → i ≡ last → moved_to last f i ≡ f
moved_yes last f i e = rw (eq-eqb i last e)

-- M₂ is M₁ but that children that were `last` may be f; Z is M₂ but that row `last` is where f was
pub record Gap (M₁ Z : Mem) (last f : ℕ) : Type 0 where
  pub between : Mem
  pub links : (i : ℕ) (d : Bool) → (child (between i) d ≡ child (M₁ i) d) ⊎ ((child (M₁ i) d ≡ last) × (child (between i) d ≡ f))
  pub copied : (i : ℕ) → (i ≡ f → ⊥) → (d : Bool) → child (Z (moved_to last f i)) d ≡ child (between i) d

module _ (w : ℕ) (M₁ Z : Mem) (last f : ℕ) (gap : Gap M₁ Z last f) where
  placed_lt : (t : Trie) (j : ℕ) (at : Bits) → HasPlace t at → Below Z j t last → j < last
  placed_lt leaf j at place low = absurd place
  placed_lt (node s p c) j at place low = below_root Z j s p c last low

  moved : (t : Trie) (path : Bits) (r r' : ℕ) → Holds w M₁ path r t → Holds w Z path r' t → r' ≡ moved_to last f r → times M₁ r t f ≡ 0 → Below Z r' t last
      → (at : Bits) → HasPlace t at → row_of Z r' at ≡ moved_to last f (row_of M₁ r at)
  moved leaf path r r' h h' is off low at place = absurd place
  moved (node s p c) path r r' h h' is off low [] place = is
  moved (node s p c) path r r' h h' is off low (b ∷ at) place =
      let not_f : (r ≡ f → ⊥) = (λ e. omega (arith, hit_same r, ap (times M₁ r (node s p c)) e)) in
      let j : ℕ = child (M₁ r) b in
      let j' : ℕ = child (Z r') b in
      let low' : Below Z j' (c b) last = below_child Z r' s p c last b low in
      let lt : j' < last = placed_lt (c b) j' at place low' in
      let was : j' ≡ child (gap.between r) b = ap (λ (i : ℕ). child (Z i) b) is ∙ gap.copied r not_f b in
      let j-is : j' ≡ moved_to last f j =
      ⊎_elim
      (λ e. let z : j' ≡ j = was ∙ e in z ∙ sym (moved_no last f j (λ g. omega arith)))
      (λ e. was ∙ e.1 ∙ sym (moved_yes last f j e.0))
      (gap.links r b) in
      moved (c b) (path ++ (b ∷ [])) j j' (h.below b).1 (h'.below b).1 j-is
      (let z : times M₁ j (c b) f ≡ 0 = omega (arith, times_child M₁ r s p c b f) in z) low' at place

module _ (X : Type 0) (L : Layout X) (w : ℕ) (st : Stores w L) where
  gap_closed : (m : X) (n last f : ℕ) → Tidy w (L.get m) n → 0 < n → n ≤ L.room m → f < n → last < n
      → Gap (L.get m) (L.get (L.put (cond (eqb f last) m (move_row L w m last f)) last zero_row)) last f
  gap_closed m n last f tidy some lies low high =
      let s' : X = relink L w w m 0 (L.get m last).value last f in
      let s'' : X = L.put s' f (L.get s' last) in
      by_cond (λ (x : X). Gap (L.get m) (L.get (L.put x last zero_row)) last f) (eqb f last) m s''
      (λ e.
      let same : f ≡ last = eqb-true f last e in
      record {
        between = L.get m;
        links = λ i d. inl refl;
        copied = λ i ne d.
            let off : (i ≡ last → ⊥) = (λ g. ne (g ∙ sym same)) in
            ap (λ (j : ℕ). child (L.get (L.put m last zero_row) j) d) (moved_no last f i off) ∙ ap (λ (x : Row). child x d) (st.get_other m last i zero_row off);
      })
      (λ e.
      let apart : (f ≡ last → ⊥) = eqb-false f last e in
      let relinked = relink_links L w st w m n 0 (L.get m last).value last f tidy some lies low in
      let fits : f < L.room s' = rw (relink_room L w st w w m 0 (L.get m last).value last f) (omega arith) in
      record {
        between = L.get s';
        links = relinked.0;
        copied = λ i ne d.
            ⊎_elim
            (λ (g : eqb i last ≡ true).
            let z : i ≡ last = eqb-true i last g in
            ap (λ (j : ℕ). child (L.get (L.put s'' last zero_row) j) d) (moved_yes last f i z)
            ∙ ap (λ (x : Row). child x d) (st.get_other s'' last f zero_row apart ∙ st.get_same s' f (L.get s' last) fits (relinked.1.low last high) ∙ ap (L.get s') (sym z)))
            (λ (g : eqb i last ≡ false).
            let off : (i ≡ last → ⊥) = eqb-false i last g in
            ap (λ (j : ℕ). child (L.get (L.put s'' last zero_row) j) d) (moved_no last f i off)
            ∙ ap (λ (x : Row). child x d) (st.get_other s'' last i zero_row off ∙ st.get_other s' f i (L.get s' last) ne))
            (way (eqb i last));
      })

  module _ (m : X) (n : ℕ) (S : Routes) (q : Route) (ok : Valid w q.value q.len) (lies : n ≤ L.room m)
      (live : 0 < S (prefix_bits w q.value q.len))
      (s : Bits) (p : ℕ) (c : Bool → Trie) (rule : IsTrie (node s p c) S) (holds : Holds w (L.get m) [] 0 (node s p c))
      (once : (i : ℕ) → times (L.get m) 0 (node s p c) i ≡ cond (ltb i n) 1 0) (tidy : Tidy w (L.get m) n)
      (t' : Trie) (rule' : IsTrie t' (upd S (prefix_bits w q.value q.len) 0)) (holds' : Holds w (L.get (withdrawn L w m n q)) [] 0 t')
      (once' : (i : ℕ) → times (L.get (withdrawn L w m n q)) 0 t' i ≡ cond (ltb i (n - 1)) 1 0) where
    abbrev t : Trie
    t = node s p c

    abbrev M : Mem
    M = L.get m

    abbrev Z : Mem
    Z = L.get (withdrawn L w m n q)

    low : Below M 0 t n
    low = below_once M t n once

    some : 0 < n
    some = below_root M 0 s p c n low

    uniq : Unique M 0 t
    uniq i = by (ltb i n) (once i)
      where
        by : (b : Bool) → times M 0 t i ≡ cond b 1 0 → times M 0 t i ≤ 1
        by true e = omega arith
        by false e = omega arith

    -- the only place goes
    left_none : n ≡ 1 → PlacesShrink M Z n t t'
    left_none one = record {
      gone = [];
      was = tt;
      only = λ at place isnt. by at place;
      is_not = λ place. empty t' place once';
      kept = λ at place. absurd (none t' at place once');
    }
      where
        by : (at : Bits) → HasPlace t at → at ≡ []
        by [] place = refl
        by (d ∷ at) place =
            let k : child (M 0) d < n = tidy.closed 0 some d in
            absurd (no_place w M [] 0 t d at holds (let z : child (M 0) d ≡ 0 = omega arith in z) place)

        empty : (u : Trie) → HasPlace u [] → ((i : ℕ) → times Z 0 u i ≡ cond (ltb i (n - 1)) 1 0) → ⊥
        empty leaf place o = place
        empty (node s₁ p₁ c₁) place o = omega (arith, below_root Z 0 s₁ p₁ c₁ (n - 1) (below_once Z (node s₁ p₁ c₁) (n - 1) o))

        none : (u : Trie) (at : Bits) → HasPlace u at → ((i : ℕ) → times Z 0 u i ≡ cond (ltb i (n - 1)) 1 0) → ⊥
        none leaf at place o = place
        none (node s₁ p₁ c₁) at place o = empty (node s₁ p₁ c₁) tt o

    module _ (more : n ≡ 1 → ⊥) where
      abbrev z : Cut X
      z = cut L w w m 0 q

      abbrev M₁ : Mem
      M₁ = L.get z.rows

      abbrev f : ℕ
      f = z.freed

      abbrev last : ℕ
      last = n - 1

      t_is : remove (prefix_bits w q.value q.len) t ≡ t'
      t_is =
          trie_unique (remove (prefix_bits w q.value q.len) t) t' (upd S (prefix_bits w q.value q.len) 0)
          (remove_is t S (prefix_bits w q.value q.len) live rule) rule'

      sh : Shrunk L w st m z [] 0 t (prefix_bits w q.value q.len)
      sh = shrunk X L w st m n S q ok lies live s p c rule holds once more

      h₁ : Holds w M₁ [] 0 t'
      h₁ = subst (Holds w M₁ [] 0) t_is sh.holds

      count : (i : ℕ) → times M₁ 0 t' i + hit f i ≡ times M 0 t i
      count i = ap (λ (u : Trie). times M₁ 0 u i + hit f i) (sym t_is) ∙ sh.reached i

      low₁ : Below M₁ 0 t' n
      low₁ i k = low i (omega (arith, count i))

      f_there : 0 < times M 0 t f
      f_there = omega (arith, count f, hit_same f)

      f_lt : f < n
      f_lt = low f f_there

      cuts : (i : ℕ) → i < n → (b : Bool) → Link M₁ M f (L.room m) i b
      cuts i k b = (cut_links L w st w m n 0 q tidy some lies ok.fits).0 i b

      tidy₁ : Tidy w M₁ n
      tidy₁ = (cut_links L w st w m n 0 q tidy some lies ok.fits).1

      root' : HasPlace t' []
      root' = root_there Z last t' once' (omega (arith, some, more))

      gone : PlaceOf M t 0 f
      gone = place_of M t 0 f f_there

      kept₁ : (at : Bits) → HasPlace t' at → HasPlace t at × (row_of M 0 at ≡ row_of M₁ 0 at)
      kept₁ = kept w M₁ M f (L.room m) n n cuts (λ k. omega arith) t' t [] 0 h₁ holds tt low₁

      gap : Gap M₁ Z last f
      unfolding withdrawn close_gap
      gap =
          let is : withdrawn L w m n q ≡ close_gap L w z last = rw (lt-ltb 1 n (omega (arith, some, more))) in
          subst (λ (x : X). Gap M₁ (L.get x) last f) (sym is)
          (gap_closed z.rows n last f tidy₁ some (rw (cut_room L w st w w m 0 q) lies) f_lt (omega (arith, some)))

      left_more : PlacesShrink M Z n t t'
      left_more = record {
        gone = gone.at;
        was = gone.there;
        only = λ at place isnt.
            ⊎_elim
            (λ e. absurd (isnt e))
            (λ e. one_place M t 0 uniq at gone.at place gone.there (e ∙ sym gone.is))
            (new w M₁ M f (L.room m) n n cuts (λ k. omega arith) t' t [] 0 h₁ holds root' low₁ low at place);
        is_not = λ place.
            let row : row_of M₁ 0 gone.at ≡ f = sym (kept₁ gone.at place).1 ∙ gone.is in
            omega (arith, ap (times M₁ 0 t') row, place_reached M₁ t' 0 gone.at place, count f, hit_same f, uniq f);
        kept = λ at place.
            let k = kept₁ at place in (
              k.0,
              moved w M₁ Z last f gap t' [] 0 0 h₁ holds' (sym (moved_no last f 0 (λ e. omega (arith, some, more))))
                  (let e : times M₁ 0 t' f ≡ 0 = omega (arith, count f, hit_same f, uniq f) in e) (below_once Z t' last once') at place
                  ∙ ap₂ (λ (g i : ℕ). moved_to last g i) (sym gone.is) (sym k.1),
            );
      }

pub withdrawn_places : WithdrawnPlaces
withdrawn_places X L w st m n S q old ok lies live new = by old.trie old.rule old.holds old.once
  where
    by : (t : Trie) → IsTrie t S → Holds w (L.get m) [] 0 t → ((i : ℕ) → times (L.get m) 0 t i ≡ cond (ltb i n) 1 0)
        → PlacesShrink (L.get m) (L.get (withdrawn L w m n q)) n t new.trie
    by leaf rule h once = absurd (omega (arith, rule (prefix_bits w q.value q.len), live))
    by (node s p c) rule h once =
        ⊎_elim
        (λ (e : eqb n 1 ≡ true).
        left_none X L w st m n S q ok lies live s p c rule h once (placed_tidy w (L.get m) n S old) new.trie new.rule new.holds new.once (eqb-true n 1 e))
        (λ (e : eqb n 1 ≡ false).
        left_more X L w st m n S q ok lies live s p c rule h once (placed_tidy w (L.get m) n S old) new.trie new.rule new.holds new.once (eqb-false n 1 e))
        (way (eqb n 1))
