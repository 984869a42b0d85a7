-- An announcement keeps the rows of the places, and the new place has row n: it follows for any trie that the rows hold. Assumes nothing.
use mathlib.Core.Path.{◌≡◌, refl, sym, ap, ◌∙◌, subst}
use mathlib.Core.Logic.{◌⊎◌, inl, inr, ⊎_elim}
use mathlib.Core.Bool.{Bool, true, false, cond}
use mathlib.Core.List.{[], ◌∷◌, ◌++◌}
use Prim.Native.Nat.{ℕ, ◌+◌, ◌<◌, ◌≤◌}
use native.Mathlib.Omega.{arith}
use lib.Dec.{eqb, ltb}
use borrow.Author.Tests.{eq-eqb, ne_eqb, eqb-true, eqb-false, lt-ltb}
use Rattle.lists.proofs.Tests.{way}
use Rattle.bits.specs.Bits.{Bits, prefix_bits}
use Rattle.trie.specs.Trie.{Trie, leaf, node, IsTrie}
use Rattle.routes.specs.declared.Route.{Route}
use Rattle.table_rules.specs.Rows.{Mem, Layout, Stores, child, row_of, leaf_row}
use Rattle.table_rules.specs.Holds.{Names, Holds, times}
use Rattle.table_rules.specs.Announce.{announced}
use Rattle.table_rules.specs.declared.Row.{Row}
use Rattle.table_rules.proofs.Holds.{Below, below_root, below_child, below_once}
use Rattle.table_places.specs.Places.{HasPlace, PlacesGrow}
use Rattle.table_places.specs.Theorems.{AnnouncedPlaces}
use Rattle.table_places.proofs.Links.{Tidy, placed_tidy, Low, no_child, Link, Linked, sink_links}

names_place : (c : ℕ) (t : Trie) (at : Bits) → Names c t → HasPlace t at → 0 < c
names_place c leaf at names h = absurd h
names_place c (node s p k) at names h = names

place_named : (c : ℕ) (t : Trie) → Names c t → 0 < c → HasPlace t []
place_named c leaf names h = absurd (omega arith)
place_named c (node s p k) names h = tt

-- a row without a child has no place below it
pub no_place : (w : ℕ) (M : Mem) (path : Bits) (r : ℕ) (t : Trie) (d : Bool) (at : Bits) → Holds w M path r t → child (M r) d ≡ 0 → HasPlace t (d ∷ at) → ⊥
no_place w M path r leaf d at h none place = place
no_place w M path r (node s p c) d at h none place =
    let some : 0 < child (M r) d = names_place (child (M r) d) (c d) at (h.below d).0 place in omega arith

pub root_there : (M : Mem) (n : ℕ) (t : Trie) → ((i : ℕ) → times M 0 t i ≡ cond (ltb i n) 1 0) → 0 < n → HasPlace t []
root_there M n leaf once h = omega (arith, once 0, ap {B = ℕ} (λ (b : Bool). cond b 1 0) (lt-ltb 0 n h))
root_there M n (node s p c) once h = tt

no_root : (M : Mem) (n : ℕ) → ((i : ℕ) → times M 0 leaf i ≡ cond (ltb i n) 1 0) → n ≡ 0
no_root M n once =
    let z : (0 < n → ⊥) = (λ h. omega (arith, once 0, ap {B = ℕ} (λ (b : Bool). cond b 1 0) (lt-ltb 0 n h))) in omega arith

-- from the rows' children to the rows of places
module _ (w : ℕ) (M M' : Mem) (n room n' top : ℕ) (links : (i : ℕ) → i < top → (b : Bool) → Link M M' n room i b) (fits : n < n' → n < room) where
  -- a child that was there is there
  same_child : (r : ℕ) (b : Bool) → r < top → 0 < child (M r) b → child (M' r) b ≡ child (M r) b
  same_child r b low some = ⊎_elim (λ e. e) (λ e. absurd (omega (arith, e.0))) (links r low b)

  pub kept : (t t' : Trie) (path : Bits) (r : ℕ) → Holds w M path r t → Holds w M' path r t' → HasPlace t' [] → Below M r t top
      → (at : Bits) → HasPlace t at → HasPlace t' at × (row_of M' r at ≡ row_of M r at)
  kept leaf t' path r h h' root low at place = absurd place
  kept (node s p c) leaf path r h h' root low at place = absurd root
  kept (node s p c) (node s' p' c') path r h h' root low [] place = (tt, refl)
  kept (node s p c) (node s' p' c') path r h h' root low (b ∷ at) place =
      let j : ℕ = child (M r) b in
      let some : 0 < j = names_place j (c b) at (h.below b).0 place in
      let same : child (M' r) b ≡ j = same_child r b (below_root M r s p c top low) some in
      let side : Names j (c' b) × Holds w M' (path ++ (b ∷ [])) j (c' b) =
      subst (λ (i : ℕ). Names i (c' b) × Holds w M' (path ++ (b ∷ [])) i (c' b)) same (h'.below b) in
      let on = kept (c b) (c' b) (path ++ (b ∷ [])) j (h.below b).1 side.1 (place_named j (c' b) side.0 some) (below_child M r s p c top b low) at place in
      (on.0, ap (λ (i : ℕ). row_of M' i at) same ∙ on.1)

  -- where there was no child, and is one
  tip : (s : Bits) (p : ℕ) (c : Bool → Trie) (path : Bits) (r : ℕ) → Holds w M' path r (node s p c) → Below M' r (node s p c) n' → r < top → (b : Bool)
      → child (M r) b ≡ 0 → (at : Bits) → HasPlace (c b) at → row_of M' (child (M' r) b) at ≡ n
  tip s p c path r h low lt b none at place =
      let j : ℕ = child (M' r) b in
      let some : 0 < j = names_place j (c b) at (h.below b).0 place in
      ⊎_elim
      (λ e. absurd (omega (arith, e)))
      (λ e. end at place e.1 (e.2 (fits (rw e.1 at (reached (c b) (place_named j (c b) (h.below b).0 some) (below_child M' r s p c n' b low))))))
      (links r lt b)
    where
      reached : (t : Trie) → HasPlace t [] → Below M' (child (M' r) b) t n' → child (M' r) b < n'
      reached leaf place low = absurd place
      reached (node s₁ p₁ c₁) place low = below_root M' (child (M' r) b) s₁ p₁ c₁ n' low

      end : (at : Bits) → HasPlace (c b) at → child (M' r) b ≡ n → ((d : Bool) → child (M' n) d ≡ 0) → row_of M' (child (M' r) b) at ≡ n
      end [] place e alone = e
      end (d ∷ at) place e alone =
          absurd (no_place w M' (path ++ (b ∷ [])) (child (M' r) b) (c b) d at (h.below b).1 (ap (λ (i : ℕ). child (M' i) d) e ∙ alone d) place)

  pub new : (t t' : Trie) (path : Bits) (r : ℕ) → Holds w M path r t → Holds w M' path r t' → HasPlace t [] → Below M r t top → Below M' r t' n'
      → (at : Bits) → HasPlace t' at → HasPlace t at ⊎ (row_of M' r at ≡ n)
  new leaf t' path r h h' root low low' at place = absurd root
  new (node s p c) leaf path r h h' root low low' at place = absurd place
  new (node s p c) (node s' p' c') path r h h' root low low' [] place = inl tt
  new (node s p c) (node s' p' c') path r h h' root low low' (b ∷ at) place =
      ⊎_elim
      (λ (e : eqb (child (M r) b) 0 ≡ true).
      inr (tip s' p' c' path r h' low' (below_root M r s p c top low) b (eqb-true (child (M r) b) 0 e) at place))
      (λ (e : eqb (child (M r) b) 0 ≡ false).
      let j : ℕ = child (M r) b in
      let ne : (j ≡ 0 → ⊥) = eqb-false j 0 e in
      let some : 0 < j = omega arith in
      let same : child (M' r) b ≡ j = same_child r b (below_root M r s p c top low) some in
      let side : Holds w M' (path ++ (b ∷ [])) j (c' b) × Below M' j (c' b) n' =
      subst (λ (i : ℕ). Holds w M' (path ++ (b ∷ [])) i (c' b) × Below M' i (c' b) n') same ((h'.below b).1, below_child M' r s' p' c' n' b low') in
      ⊎_elim inl (λ f. inr (ap (λ (i : ℕ). row_of M' i at) same ∙ f))
      (new (c b) (c' b) (path ++ (b ∷ [])) j (h.below b).1 side.0 (place_named j (c b) (h.below b).0 some) (below_child M r s p c top b low) side.1 at place))
      (way (eqb (child (M r) b) 0))

module _ (X : Type 0) (L : Layout X) (w : ℕ) (st : Stores w L) (m : X) (n : ℕ) (q : Route) (fine : Low w q) (lies : n ≤ L.room m) (n' : ℕ) (fits : n < n' → n < L.room m) (more : n ≤ n') where
  abbrev M' : Mem
  M' = L.get (announced L w m n q)

  -- into an empty table
  grow_first : (t' : Trie) → n ≡ 0 → 0 < n' → Holds w M' [] 0 t' → PlacesGrow (L.get m) M' n leaf t'
  unfolding announced
  grow_first t' z some h' = record { kept = λ at place. absurd place; new = λ at place isnt. by at place }
    where
      row : L.get (L.put m 0 (leaf_row q)) 0 ≡ leaf_row q
      row = st.get_same m 0 (leaf_row q) (omega (arith, fits (omega arith))) fine

      is : announced L w m n q ≡ L.put m 0 (leaf_row q)
      is = rw (eq-eqb n 0 z)

      bare : (d : Bool) → child (M' 0) d ≡ 0
      bare d = ap (λ (x : X). child (L.get x 0) d) is ∙ ap (λ (x : Row). child x d) row ∙ no_child q d

      by : (at : Bits) → HasPlace t' at → row_of M' 0 at ≡ n
      by [] place = sym z
      by (d ∷ at) place = absurd (no_place w M' [] 0 t' d at h' (bare d) place)

  grow_more : (t t' : Trie) → 0 < n → Tidy w (L.get m) n → Holds w (L.get m) [] 0 t → Holds w M' [] 0 t' → HasPlace t [] → HasPlace t' []
      → Below (L.get m) 0 t n → Below M' 0 t' n' → PlacesGrow (L.get m) M' n t t'
  unfolding announced
  grow_more t t' some tidy h h' root root' low low' = record {
    kept = kept w (L.get m) M' n (L.room m) n' n links fits t t' [] 0 h h' root' low;
    new = λ at place isnt.
        ⊎_elim (λ e. absurd (isnt e)) (λ e. e) (new w (L.get m) M' n (L.room m) n' n links fits t t' [] 0 h h' root low low' at place);
  }
    where
      linked : Linked L w st m n (announced L w m n q)
      linked = rw (ne_eqb n 0 (λ z. omega arith)) (sink_links L w st w m n 0 q tidy some lies fine)

      links : (i : ℕ) → i < n → (b : Bool) → Link (L.get m) M' n (L.room m) i b
      links i low b = linked i (λ z. omega arith) b

pub announced_places : AnnouncedPlaces
announced_places X L w st m n S q old ok lies fits new = by old.trie old.rule old.holds old.once
  where
    y : Bits
    y = prefix_bits w q.value q.len

    n' : ℕ
    n' = cond (eqb (S y) 0) (n + 1) n

    -- n as it becomes, by whether the prefix was held
    more : (b : Bool) → n ≤ cond b (n + 1) n
    more true = omega arith
    more false = omega arith

    new_fits : (b : Bool) → eqb (S y) 0 ≡ b → n < cond b (n + 1) n → n < L.room m
    new_fits true e h = fits (eqb-true (S y) 0 e)
    new_fits false e h = absurd (omega arith)

    by : (t : Trie) → IsTrie t S → Holds w (L.get m) [] 0 t → ((i : ℕ) → times (L.get m) 0 t i ≡ cond (ltb i n) 1 0)
        → PlacesGrow (L.get m) (L.get (announced L w m n q)) n t new.trie
    by leaf rule h once =
        let z : n ≡ 0 = no_root (L.get m) n once in
        let e : n' ≡ n + 1 = rw (eq-eqb (S y) 0 (rule y)) in
        grow_first X L w st m n q ok.prefix.fits lies n' (new_fits (eqb (S y) 0) refl) (more (eqb (S y) 0)) new.trie z (omega arith) new.holds
    by (node s p c) rule h once =
        let low : Below (L.get m) 0 (node s p c) n = below_once (L.get m) (node s p c) n once in
        let some : 0 < n = below_root (L.get m) 0 s p c n low in
        let at_least : n ≤ n' = more (eqb (S y) 0) in
        grow_more X L w st m n q ok.prefix.fits lies n' (new_fits (eqb (S y) 0) refl) at_least (node s p c) new.trie some
        (placed_tidy w (L.get m) n S old) h new.holds tt (root_there (L.get (announced L w m n q)) n' new.trie new.once (omega arith)) low
        (below_once (L.get (announced L w m n q)) new.trie n' new.once)
