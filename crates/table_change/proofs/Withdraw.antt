-- One turn of a withdrawal, by what the code finds at the row, in rows of any layout. Assumes nothing.
use mathlib.Core.Path.{◌≡◌, refl, sym, ap, ap₂, ◌∙◌}
use mathlib.Core.Bool.{Bool, true, false, cond}
use Prim.Native.Nat.{ℕ, zero, suc, ◌-◌, ◌<◌, ◌≤◌}
use native.Mathlib.Omega.{arith}
use lib.Dec.{eqb}
use borrow.Author.Tests.{eq-eqb, ne_eqb, lt-ltb, le-ltb}
use Rattle.routes.specs.declared.Route.{Route}
use Rattle.table_rules.specs.Rows.{Mem, Layout, child, route_of, with_route, with_child}
use Rattle.bits.specs.Bits.{bit_before}
use Rattle.table_rules.specs.Announce.{is_same}
use Rattle.table_rules.specs.Withdraw.{or_route, first_route, best_at, best_child, best_below, is_last, Cut, cut, relink}
use Rattle.routes.specs.Routes.{no_route}
use Rattle.table_rules.specs.declared.Row.{Row}
use Rattle.table_change.specs.Refill.{refill_of, refill_at, cut_as}
use Rattle.table_change.specs.declared.refilling.Refill.{Refill}
use Rattle.table_change.proofs.Held.{pred_of}

-- the best route of a child's rows
module _ (w : ℕ) (M : Mem) (left c : ℕ) (x : Row) (is : x ≡ M c) (r : Route) where
  pub best_none : c ≡ 0 → no_route ≡ best_child w M left c
  best_none e = rw (eq-eqb c 0 e)

  module _ (some : c ≡ 0 → ⊥) where
    there : best_at w M left c ≡ best_child w M left c
    there = rw (ne_eqb c 0 some)

    pub best_last : left ≡ 0 → r ≡ route_of x → r ≡ best_child w M left c
    unfolding best_at
    best_last e f = f ∙ ap route_of is ∙ sym (ap (λ (k : ℕ). best_at w M k c) e) ∙ there

    pub best_priority : (left ≡ 0 → ⊥) → w - left < x.len → r ≡ route_of x → r ≡ best_child w M left c
    unfolding best_at
    best_priority ne h f = f ∙ ap route_of is ∙ by left ne (rw (← is) h) ∙ there
      where
        by : (k : ℕ) → (k ≡ 0 → ⊥) → w - k < (M c).len → route_of (M c) ≡ best_at w M k c
        by zero n h = absurd (n refl)
        by (suc k) n h = rw (lt-ltb (w - suc k) (M c).len h)

    pub best_ordinary : (left ≡ 0 → ⊥) → x.len ≤ w - left → (a b f o : Route)
        → a ≡ best_child w M (left - 1) x.left → b ≡ best_child w M (left - 1) x.right → f ≡ first_route a b → o ≡ route_of x
        → r ≡ or_route f o → r ≡ best_child w M left c
    unfolding best_at
    best_ordinary ne h a b f o ea eb ef eo er =
        er
        ∙ ap₂ (λ (y z : Route). or_route y z)
        (ef ∙ ap₂ first_route (ea ∙ ap (λ (y : Row). best_child w M (left - 1) y.left) is) (eb ∙ ap (λ (y : Row). best_child w M (left - 1) y.right) is))
        (eo ∙ ap route_of is)
        ∙ by left ne (rw (← is) h) ∙ there
      where
        by : (k : ℕ) → (k ≡ 0 → ⊥) → (M c).len ≤ w - k → or_route (best_below w M (k - 1) (M c)) (route_of (M c)) ≡ best_at w M k c
        by zero n h = absurd (n refl)
        by (suc k) n h = rw (pred_of k, le-ltb (w - suc k) (M c).len h)

-- the refill from the code's values
module _ (w : ℕ) (M : Mem) (x : Row) (k : ℕ) (q : Route) (a : Bool) (same : a ≡ is_same q x) (r : Refill) where
  pub refill_same : a ≡ true → (b c d : Route) → b ≡ best_child w M k x.left → c ≡ best_child w M k x.right → d ≡ first_route b c
      → r ≡ refill_of x k d d → r ≡ refill_at w M x k q
  refill_same e b c d eb ec ed er =
      let s : is_same q x ≡ true = sym same ∙ e in
      er ∙ ap (λ (z : Route). refill_of x k z z) (ed ∙ ap₂ first_route eb ec) ∙ sym (rw s)

  pub refill_other : a ≡ false → (o : Route) → o ≡ route_of x → r ≡ refill_of x k o q → r ≡ refill_at w M x k q
  refill_other e o eo er =
      let s : is_same q x ≡ false = sym same ∙ e in
      er ∙ ap (λ (z : Route). refill_of x k z q) eo ∙ sym (rw s)

-- one turn of the cut
module _ {S : Type 0} (L : Layout S) (w : ℕ) (ws : S) (left row : ℕ) (q : Route) where
  abbrev Whole : Cut S
  Whole = cut L w left ws row q

  pub cut_none : left ≡ 0 → cut_as ws row ≡ Whole
  unfolding cut
  cut_none e = sym (ap (λ (k : ℕ). cut L w k ws row q) e)

  abbrev cut_by : ℕ → Refill → Cut S
  cut_by k p =
      cond (is_last p.taken (L.get ws p.child))
      (cut_as (L.put ws row (with_child (with_route (L.get ws row) p.holder) p.right 0)) p.child)
      (cut L w k (L.put ws row (with_route (L.get ws row) p.holder)) p.child p.taken)

  cut_step : (k : ℕ) → (k ≡ 0 → ⊥) → cut L w k ws row q ≡ cut_by (k - 1) (refill_at w (L.get ws) (L.get ws row) (k - 1) q)
  unfolding cut
  cut_step zero ne = absurd (ne refl)
  cut_step (suc k) ne = rw (pred_of k)

  module _ (ne : left ≡ 0 → ⊥) (x : Row) (is : x ≡ L.get ws row) (p : Refill) (refilled : p ≡ refill_at w (L.get ws) x (left - 1) q)
      (held : Row) (holds : held ≡ with_route x p.holder) (l : Row) (last : l ≡ L.get ws p.child)
      (a : Bool) (lone : a ≡ is_last p.taken l) where
    p_is : p ≡ refill_at w (L.get ws) (L.get ws row) (left - 1) q
    p_is = refilled ∙ ap (λ (y : Row). refill_at w (L.get ws) y (left - 1) q) is

    on : cut_by (left - 1) p ≡ Whole
    on = ap (cut_by (left - 1)) p_is ∙ sym (cut_step left ne)

    h_is : held ≡ with_route (L.get ws row) p.holder
    h_is = holds ∙ ap (λ (y : Row). with_route y p.holder) is

    l_is : (v : Bool) → a ≡ v → is_last p.taken (L.get ws p.child) ≡ v
    l_is v e = ap (is_last p.taken) (sym last) ∙ sym lone ∙ e

    pub cut_last : a ≡ true → (y : Row) → y ≡ with_child held p.right 0 → (ws' : S) → ws' ≡ L.put ws row y → cut_as ws' p.child ≡ Whole
    cut_last e y f ws' g =
        ap (λ (v : S). cut_as v p.child) (g ∙ ap (L.put ws row) (f ∙ ap (λ (z : Row). with_child z p.right 0) h_is))
        ∙ sym (rw (l_is true e)) ∙ on

    pub cut_on_lem : a ≡ false → (ws₁ : S) → ws₁ ≡ L.put ws row held → (z : Cut S)
        → z ≡ cut L w (left - 1) ws₁ p.child p.taken → z ≡ Whole
    cut_on_lem e ws₁ g z f =
        f ∙ ap (λ (v : S). cut L w (left - 1) v p.child p.taken) (g ∙ ap (L.put ws row) h_is)
        ∙ sym (rw (l_is false e)) ∙ on

-- one turn of the relinking
module _ {S : Type 0} (L : Layout S) (w : ℕ) (ws : S) (value last freed : ℕ) (left row : ℕ) (end : S) (inv : relink L w left ws row value last freed ≡ end) where
  pub relink_done : left ≤ 0 → ws ≡ end
  relink_done h = by left h inv
    where
      by : (k : ℕ) → k ≤ 0 → relink L w k ws row value last freed ≡ end → ws ≡ end
      by zero h e = unfold relink in e
      by (suc k) h e = absurd (omega arith)

  relink_step : (k : ℕ) → 0 < k
      → relink L w k ws row value last freed
      ≡ cond (eqb (child (L.get ws row) (bit_before value (k - 1))) last)
      (L.put ws row (with_child (L.get ws row) (bit_before value (k - 1)) freed))
      (relink L w (k - 1) ws (child (L.get ws row) (bit_before value (k - 1))) value last freed)
  unfolding relink
  relink_step zero h = absurd (omega arith)
  relink_step (suc k) h = rw (pred_of k)

  module _ (pos : 0 < left) (x : Row) (is : x ≡ L.get ws row) (b : Bool) (bit : b ≡ bit_before value (left - 1)) (c : ℕ) (kid : c ≡ child x b) where
    c_is : c ≡ child (L.get ws row) (bit_before value (left - 1))
    c_is = kid ∙ ap₂ (λ (y : Row) (d : Bool). child y d) is bit

    pub relink_here : c ≡ last → (y : Row) → y ≡ with_child x b freed → (ws' : S) → ws' ≡ L.put ws row y → ws' ≡ end
    relink_here e y f ws' g =
        g ∙ ap (L.put ws row) (f ∙ ap₂ (λ (z : Row) (d : Bool). with_child z d freed) is bit)
        ∙ sym (relink_step left pos ∙ rw (eq-eqb _ last (sym c_is ∙ e))) ∙ inv

    pub relink_on : (c ≡ last → ⊥) → relink L w (left - 1) ws c value last freed ≡ end
    relink_on ne =
        ap (λ (j : ℕ). relink L w (left - 1) ws j value last freed) c_is
        ∙ sym (relink_step left pos ∙ rw (ne_eqb _ last (λ e. ne (c_is ∙ e)))) ∙ inv
