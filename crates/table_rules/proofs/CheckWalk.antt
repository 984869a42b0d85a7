-- What the walk sees of rows that hold a trie: whether the trie is ordered, how many nodes it has, and its best. Assumes nothing.
use mathlib.Core.Path.{◌≡◌, refl, sym, ap, ◌∙◌, subst}
use mathlib.Core.Logic.{◌⊎◌, inl, inr}
use mathlib.Core.Bool.{Bool, true, false, cond, ◌||◌, and-false}
use mathlib.Core.List.{[], ◌∷◌, ◌++◌, append_assoc}
use Prim.Native.Nat.{ℕ, zero, suc, ◌+◌, ◌-◌, ◌<◌}
use native.Mathlib.Omega.{arith}
use lib.ListN.{length, length-append}
use borrow.Author.Tests.{eq-eqb, ne_eqb, lt-ltb}
use Rattle.bits.specs.Bits.{Bits}
use Rattle.trie.specs.Trie.{Trie, leaf, node, ahead}
use Rattle.trie.specs.Update.{Best, none, some, lift, first_of, or_own, best}
use Rattle.table_rules.specs.Rows.{Mem, child}
use Rattle.table_rules.specs.Holds.{Names, Holds}
use Rattle.table_rules.specs.Lookup.{wrong_row}
use Rattle.bits.specs.Prefix.{ahead_of}
use Rattle.table_rules.specs.Check.{seen, no_rows, wrong_rows, first_seen, seen_over, seen_join, path_on, seen_at}
use Rattle.table_rules.specs.declared.Row.{Row}
use Rattle.table_rules.specs.Check.{Seen}
use Rattle.table_rules.proofs.Paths.{At, at_ahead, at_priority}
use Rattle.table_rules.proofs.Holds.{row_at, Below, below_child}
use Rattle.table_rules.specs.Walk.{seen_below}
use Rattle.table_rules.proofs.Right.{not_wrong}
use Rattle.table_rules.proofs.Ordered.{leads, best_below, ordered}
use Rattle.table_rules.proofs.Reach.{size}
use Rattle.table_rules.proofs.Place.{path_first, path_on_lem, holds_right, holds_deep}
use Rattle.table_rules.proofs.Walk.{beyond, seen_at_by}

module _ (w : ℕ) where
  -- o has the numbers of the best x at a path; no rows where there is none
  abbrev Led : Bits → Best → Seen → Type 0
  Led path none o = o.rows ≡ 0
  Led path (some q p) o = (0 < o.rows) × At w path o.value o.len q

  module _ (path : Bits) where
    led_lift : (b : Bool) (x : Best) (o : Seen) → Led (path ++ (b ∷ [])) x o → Led path (lift b x) o
    led_lift b none o h = h
    led_lift b (some q p) o h = (h.0, record { valid = h.1.valid; is = h.1.is ∙ append_assoc path (b ∷ []) q })

    led_first : (x y : Best) (l r : Seen) → Led path x l → Led path y r → Led path (first_of x y) (first_seen l r)
    led_first none none l r hl hr = rw (eq-eqb r.rows 0 hr) hl
    led_first none (some q o) l r hl hr = rw (ne_eqb r.rows 0 (λ z. omega (arith, hr.0)), eq-eqb l.rows 0 hl) hr
    led_first (some s p) none l r hl hr = rw (eq-eqb r.rows 0 hr) hl
    led_first (some s p) (some q o) l r hl hr =
        rw (ne_eqb r.rows 0 (λ z. omega (arith, hr.0)), ne_eqb l.rows 0 (λ z. omega (arith, hl.0)))
        (go (ahead_of r.value r.len l.value l.len) (at_ahead w path r.value r.len l.value l.len q s hr.1 hl.1))
      where
        go : (b : Bool) → ahead q s ≡ b → Led path (cond (ahead q s) (some q o) (some s p)) (cond b r l)
        go true e = rw e hr
        go false e = rw e hl

    -- the best of a node, by its own bits and the best below it
    abbrev own_best : Bits → ℕ → Best → Best
    own_best [] p x = or_own x p
    own_best (b ∷ s) p x = some (b ∷ s) p

    -- a row over all that is below it: m rows, of which f goes first
    abbrev Over : Bits → ℕ → Best → ℕ → Seen → Type 0
    Over s p x m o =
        ((leads s x ≡ true) × (o.wrong ≡ false) × (o.rows ≡ m) × Led path (own_best s p x) o) ⊎ ((leads s x ≡ false) × (o.wrong ≡ true))

    outranks_seen : (x : Row) (s : Bits) (p : ℕ) (t : Best) (m : ℕ) (f : Seen) → At w path x.value x.len s → 0 < m → Led path t f
        → Over s p t m (seen_over x (length path) m f)
    outranks_seen x [] p none m f at pos h = rw (eq-eqb f.rows 0 h) (inl (refl, refl, refl, (pos, at)))
    outranks_seen x (b ∷ s) p none m f at pos h = rw (eq-eqb f.rows 0 h) (inl (refl, refl, refl, (pos, at)))
    outranks_seen x [] p (some q o) m f at pos h =
        rw (ne_eqb f.rows 0 (λ z. omega (arith, h.0)), sym (at_priority w path x.value x.len [] at))
        (inl (refl, refl, refl, (pos, h.1)))
    outranks_seen x (b ∷ s) p (some q o) m f at pos h =
        rw (ne_eqb f.rows 0 (λ z. omega (arith, h.0)), sym (at_priority w path x.value x.len (b ∷ s) at))
        (go (ahead_of x.value x.len f.value f.len) (at_ahead w path x.value x.len f.value f.len (b ∷ s) q at h.1))
      where
        go : (a : Bool) → ahead (b ∷ s) q ≡ a → Over (b ∷ s) p (some q o) m (cond a (seen m x.value x.len) wrong_rows)
        go true e = inl (e, refl, refl, (pos, at))
        go false e = inr (e, refl)

  -- what was seen of a trie at a path
  pub record Agrees (path : Bits) (t : Trie) (o : Seen) : Type 0 where
    pub fine : o.wrong ≡ false
    pub sound : ordered t ≡ true
    pub rows : o.rows ≡ size t
    pub first : Led path (best t) o

  abbrev pub SeenAs : Bits → Trie → Seen → Type 0
  SeenAs path t o = Agrees path t o ⊎ ((o.wrong ≡ true) × (ordered t ≡ false))

  seen_leaf : (path : Bits) → SeenAs path leaf no_rows
  seen_leaf path = inl (record { fine = refl; sound = refl; rows = refl; first = refl })

  module _ (path : Bits) (x : Row) (s : Bits) (p : ℕ) (c : Bool → Trie) (at : At w path x.value x.len s) (pos : 0 < p) where
    abbrev on : Bool → Bits
    on b = path ++ (b ∷ [])

    abbrev m : Seen → Seen → ℕ
    m l r = l.rows + r.rows + 1

    -- the join, by whether a side is wrong
    join_as : (l r : Seen) (b : Bool) → (l.wrong || r.wrong) ≡ b
        → SeenAs path (node s p c) (cond b wrong_rows (seen_over x (length path) (m l r) (first_seen l r)))
        → SeenAs path (node s p c) (seen_join x (length path) l r)
    join_as l r b e h =
        subst (λ (b : Bool). SeenAs path (node s p c) (cond b wrong_rows (seen_over x (length path) (m l r) (first_seen l r)))) (sym e) h

    seen_both : (l r : Seen) → Agrees (on false) (c false) l → Agrees (on true) (c true) r → SeenAs path (node s p c) (seen_join x (length path) l r)
    seen_both l r hl hr =
        join_as l r false (rw (hl.fine, hr.fine))
        (go (outranks_seen path x s p (best_below c) (m l r) (first_seen l r) at (omega arith)
        (led_first path (lift false (best (c false))) (lift true (best (c true))) l r
        (led_lift path false (best (c false)) l hl.first) (led_lift path true (best (c true)) r hr.first))))
      where
        best_own : (s : Bits) → best (node s p c) ≡ own_best path s p (best_below c)
        best_own [] = refl
        best_own (b ∷ s) = refl

        go : Over path s p (best_below c) (m l r) (seen_over x (length path) (m l r) (first_seen l r))
            → SeenAs path (node s p c) (seen_over x (length path) (m l r) (first_seen l r))
        go (inl h) = inl (record {
          fine = h.1;
          sound = rw (lt-ltb 0 p pos, h.0, hl.sound, hr.sound);
          rows = h.2 ∙ omega (arith, hl.rows, hr.rows);
          first = subst (λ (z : Best). Led path z (seen_over x (length path) (m l r) (first_seen l r))) (sym (best_own s)) h.3;
        })
        go (inr h) = inr (h.1, rw (lt-ltb 0 p pos, h.0))

    seen_join_lem : (l r : Seen) → SeenAs (on false) (c false) l → SeenAs (on true) (c true) r → SeenAs path (node s p c) (seen_join x (length path) l r)
    seen_join_lem l r (inl hl) (inl hr) = seen_both l r hl hr
    seen_join_lem l r (inr hl) hr =
        join_as l r true (rw hl.0) (inr (refl, rw (lt-ltb 0 p pos, hl.1) (and-false (leads s (best_below c)))))
    seen_join_lem l r (inl hl) (inr hr) =
        join_as l r true (rw (hl.fine, hr.0)) (inr (refl, rw (lt-ltb 0 p pos, hl.sound, hr.1) (and-false (leads s (best_below c)))))

module _ (w : ℕ) (M : Mem) (n : ℕ) where
  -- rows that hold a trie are seen as that trie

  abbrev SeenIs : Trie → Type 0
  SeenIs leaf = Unit {0}
  SeenIs (node s p c) =
      (path : Bits) (k r : ℕ) → length path + k ≡ w → Holds w M path r (node s p c) → Below M r (node s p c) n
      → SeenAs w path (node s p c) (seen_at w M n k (path_first path k) r)

  seen_child_lem : (t : Trie) → SeenIs t → (path : Bits) (k c : ℕ) → length path + k ≡ w → Names c t → Holds w M path c t → Below M c t n
      → SeenAs w path t (seen_below w M n k (path_first path k) c)
  seen_child_lem leaf ih path k c deep names h low =
      subst (λ (b : Bool). SeenAs w path leaf (cond b no_rows (seen_at w M n k (path_first path k) c))) (sym (eq-eqb c 0 names)) (seen_leaf w path)
  seen_child_lem (node s p d) ih path k c deep names h low =
      subst (λ (b : Bool). SeenAs w path (node s p d) (cond b no_rows (seen_at w M n k (path_first path k) c)))
      (sym (ne_eqb c 0 (λ z. omega arith))) (ih path k c deep h low)

  -- at the full depth a child is none
  seen_end : (t : Trie) (path : Bits) (b : Bool) (c : ℕ) → length path ≡ w → Names c t → Holds w M (path ++ (b ∷ [])) c t
      → (c ≡ 0) × SeenAs w (path ++ (b ∷ [])) t no_rows
  seen_end leaf path b c deep names h = (names, seen_leaf w (path ++ (b ∷ [])))
  seen_end (node s p d) path b c deep names h =
      absurd (omega (arith, holds_deep w M (path ++ (b ∷ [])) c s p d h, length-append path (b ∷ [])))

  module _ (path : Bits) (k r : ℕ) (s : Bits) (p : ℕ) (c : Bool → Trie) (deep : length path + k ≡ w)
      (h : Holds w M path r (node s p c)) (low : Below M r (node s p c) n) where
    -- the row is not wrong, and so what is beyond it counts
    seen_beyond : SeenAs w path (node s p c) (beyond w M n k (path_first path k) r) → SeenAs w path (node s p c) (seen_at w M n k (path_first path k) r)
    seen_beyond z =
        let d : w - k ≡ length path = omega arith in
        let e : wrong_row w (M r) n (path_first path k) (w - k) ≡ false =
        ap (wrong_row w (M r) n (path_first path k)) d
        ∙ not_wrong w (M r) n (path_first path k) (length path) (holds_right w path k deep M r s p c n h low) in
        subst (SeenAs w path (node s p c))
        (sym (seen_at_by w M n k (path_first path k) r ∙ ap (λ (b : Bool). cond b wrong_rows (beyond w M n k (path_first path k) r)) e)) z

    joined_as : (l t : Seen) → SeenAs w (path ++ (false ∷ [])) (c false) l → SeenAs w (path ++ (true ∷ [])) (c true) t
        → SeenAs w path (node s p c) (seen_join (M r) (length path) l t)
    joined_as l t hl ht =
        seen_join_lem w path (M r) s p c (row_at w M path r s p c h) (omega (arith, h.valid.some, h.port)) l t hl ht

  seen_node : (s : Bits) (p : ℕ) (c : Bool → Trie) → ((b : Bool) → SeenIs (c b)) → SeenIs (node s p c)
  seen_node s p c ih path zero r deep h low =
      let l = seen_end (c false) path false (M r).left (omega arith) (h.below false).0 (h.below false).1 in
      let t = seen_end (c true) path true (M r).right (omega arith) (h.below true).0 (h.below true).1 in
      seen_beyond path 0 r s p c deep h low
      (rw (eq-eqb (M r).left 0 l.0, eq-eqb (M r).right 0 t.0) (joined_as path 0 r s p c deep h low no_rows no_rows l.1 t.1))
  seen_node s p c ih path (suc k) r deep h low =
      let o : (Bool → Seen) = (λ b. seen_below w M n k (path_on (path_first path (suc k)) k b) (child (M r) b)) in
      let on : ((b : Bool) → SeenAs w (path ++ (b ∷ [])) (c b) (o b)) =
      (λ b. subst (λ (v : ℕ). SeenAs w (path ++ (b ∷ [])) (c b) (seen_below w M n k v (child (M r) b))) (sym (path_on_lem path k b))
      (seen_child_lem (c b) (ih b) (path ++ (b ∷ [])) k (child (M r) b) (omega (arith, length-append path (b ∷ []))) (h.below b).0 (h.below b).1
      (below_child M r s p c n b low))) in
      let d : length path ≡ w - suc k = omega arith in
      seen_beyond path (suc k) r s p c deep h low
      (subst (λ (d : ℕ). SeenAs w path (node s p c) (seen_join (M r) d (o false) (o true))) d
      (joined_as path (suc k) r s p c deep h low (o false) (o true) (on false) (on true)))

  pub seen_is : (t : Trie) → SeenIs t
  seen_is leaf = tt
  seen_is (node s p c) = seen_node s p c (λ b. seen_is (c b))
