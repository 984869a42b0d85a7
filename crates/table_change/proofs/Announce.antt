-- One turn of a route that sinks, by what the code finds at the row, in rows of any layout. Assumes nothing.
use mathlib.Core.Path.{◌≡◌, sym, ap, ◌∙◌, subst}
use mathlib.Core.Bool.{Bool, true, false, cond}
use Prim.Native.Nat.{ℕ, zero, suc, ◌-◌, ◌<◌, ◌≤◌}
use native.Mathlib.Omega.{arith}
use lib.Dec.{eqb}
use borrow.Author.Tests.{eq-eqb, ne_eqb}
use Rattle.routes.specs.declared.Route.{Route}
use Rattle.table_rules.specs.Rows.{Layout, with_route}
use Rattle.table_rules.specs.Announce.{is_same, sink}
use Rattle.table_rules.specs.declared.Row.{Row}
use Rattle.table_change.specs.Plan.{plan_of, leaf_into}
use Rattle.table_change.specs.declared.sinking.Plan.{Plan}
use Rattle.table_change.proofs.Held.{pred_of}

module _ {S : Type 0} (L : Layout S) (w : ℕ) (ws : S) (n r : ℕ) (q : Route) where
  sink_same : (left : ℕ) → is_same q (L.get ws r) ≡ true
      → sink L w left ws n r q ≡ L.put ws r (with_route (L.get ws r) q)
  unfolding sink
  sink_same zero e = rw e
  sink_same (suc k) e = rw e

  sink_last : (left : ℕ) → left ≤ 0 → is_same q (L.get ws r) ≡ false → sink L w left ws n r q ≡ ws
  unfolding sink
  sink_last zero h e = rw e
  sink_last (suc k) h e = absurd (omega arith)

  -- what the plan says is done
  abbrev after : ℕ → Plan → S
  after k p =
      cond (eqb p.child 0) (leaf_into L ws n r p) (sink L w k (L.put ws r p.upper) n p.child p.lower)

  sink_plan : (left : ℕ) → 0 < left → is_same q (L.get ws r) ≡ false
      → sink L w left ws n r q ≡ after (left - 1) (plan_of w (L.get ws r) q (left - 1))
  unfolding sink
  sink_plan zero pos e = absurd (omega arith)
  sink_plan (suc k) pos e = rw (pred_of k, e)

-- the route q is at row `row`, with `left` bits below it; what is left to do is all that there was
abbrev pub Sinking : {S : Type 0} → Layout S → ℕ → S → S → ℕ → Route → Route → ℕ → ℕ → Type 0
Sinking L w ws₀ ws n route q left row = sink L w left ws n row q ≡ sink L w w ws₀ n 0 route

module _ {S : Type 0} (L : Layout S) (w : ℕ) (ws₀ ws : S) (n : ℕ) (route q : Route) (left row : ℕ)
    (at : Sinking L w ws₀ ws n route q left row) (x : Row) (is : x ≡ L.get ws row) (a : Bool) (same : a ≡ is_same q x) where
  a_is : (v : Bool) → a ≡ v → is_same q (L.get ws row) ≡ v
  a_is v e = ap (is_same q) (sym is) ∙ sym same ∙ e

  -- the prefix is here
  pub sinking_same : a ≡ true → (ws' : S) → ws' ≡ L.put ws row (with_route x q) → ws' ≡ sink L w w ws₀ n 0 route
  sinking_same e ws' f =
      f ∙ ap (λ (y : Row). L.put ws row (with_route y q)) is ∙ sym (sink_same L w ws n row q left (a_is true e)) ∙ at

  pub sinking_last : left ≤ 0 → a ≡ false → ws ≡ sink L w w ws₀ n 0 route
  sinking_last h e = sym (sink_last L w ws n row q left h (a_is false e)) ∙ at

  module _ (pos : 0 < left) (other : a ≡ false) (p : Plan) (planned : p ≡ plan_of w x q (left - 1)) where
    p_is : p ≡ plan_of w (L.get ws row) q (left - 1)
    p_is = planned ∙ ap (λ (y : Row). plan_of w y q (left - 1)) is

    on : after L w ws n row q (left - 1) p ≡ sink L w w ws₀ n 0 route
    on = ap (after L w ws n row q (left - 1)) p_is ∙ sym (sink_plan L w ws n row q left pos (a_is false other)) ∙ at

    -- no child: the place is new, and gets row n
    pub sinking_leaf : p.child ≡ 0 → (ws' : S) → ws' ≡ leaf_into L ws n row p → ws' ≡ sink L w w ws₀ n 0 route
    sinking_leaf e ws' f = f ∙ sym (rw (eq-eqb p.child 0 e)) ∙ on

    -- on to the child
    pub sinking_more : (p.child ≡ 0 → ⊥) → (ws' : S) → ws' ≡ L.put ws row p.upper
        → Sinking L w ws₀ ws' n route p.lower (left - 1) p.child
    sinking_more ne ws' f = subst (λ (y : S). Sinking L w ws₀ y n route p.lower (left - 1) p.child) (sym f) (sym (rw (ne_eqb p.child 0 ne)) ∙ on)
