-- One turn of the search for a prefix, by what the code finds at the row. Assumes nothing.
use mathlib.Core.Path.{◌≡◌, refl, sym, ap, ap₂, ◌∙◌}
use mathlib.Core.Bool.{Bool, true, false}
use Prim.Native.Nat.{ℕ, zero, suc, ◌-◌, ◌<◌, ◌≤◌}
use native.Mathlib.Omega.{arith}
use borrow.Author.Tests.{eq-eqb, ne_eqb}
use Rattle.routes.specs.declared.Route.{Route}
use Rattle.table_rules.specs.Rows.{Mem, child, route_of, with_route}
use Rattle.bits.specs.Bits.{bit_before}
use Rattle.table_rules.specs.Announce.{is_same, outranks_row, held_at}
use Rattle.table_rules.specs.declared.Row.{Row}
use Rattle.table_change.specs.Plan.{plan_by, plan_of}
use Rattle.table_change.specs.declared.sinking.Plan.{Plan}

pub pred_of : (k : ℕ) → suc k - 1 ≡ k
pred_of k = omega arith

module _ (w : ℕ) (M : Mem) (q : Route) (r : ℕ) where
  same_held : (left : ℕ) → is_same q (M r) ≡ true → held_at w M left r q ≡ true
  unfolding held_at
  same_held zero e = e
  same_held (suc k) e = rw e

  last_held : (left : ℕ) → left ≤ 0 → held_at w M left r q ≡ is_same q (M r)
  unfolding held_at
  last_held zero h = refl
  last_held (suc k) h = absurd (omega arith)

  outranks_held : (left : ℕ) → 0 < left → is_same q (M r) ≡ false → outranks_row (w - left) q (M r) ≡ true → held_at w M left r q ≡ false
  unfolding held_at
  outranks_held zero pos e o = absurd (omega arith)
  outranks_held (suc k) pos e o = rw (e, o)

  none_held : (left : ℕ) → 0 < left → is_same q (M r) ≡ false → outranks_row (w - left) q (M r) ≡ false
      → child (M r) (bit_before q.value (left - 1)) ≡ 0 → held_at w M left r q ≡ false
  unfolding held_at
  none_held zero pos e o z = absurd (omega arith)
  none_held (suc k) pos e o z = rw (e, o, eq-eqb _ 0 (rw (pred_of k) at z))

  next_held : (left : ℕ) → 0 < left → is_same q (M r) ≡ false → outranks_row (w - left) q (M r) ≡ false
      → (child (M r) (bit_before q.value (left - 1)) ≡ 0 → ⊥)
      → held_at w M left r q ≡ held_at w M (left - 1) (child (M r) (bit_before q.value (left - 1))) q
  unfolding held_at
  next_held zero pos e o z = absurd (omega arith)
  next_held (suc k) pos e o z =
      let z' : (child (M r) (bit_before q.value k) ≡ 0 → ⊥) = (λ g. z (rw (pred_of k) g)) in
      rw (pred_of k, e, o, ne_eqb (child (M r) (bit_before q.value k)) 0 z')

-- the same for the code's values: x is the row, a whether it is the route's, o whether the route is over it, c the child
module _ (w : ℕ) (M : Mem) (q : Route) (left r : ℕ) (end : Bool) (inv : held_at w M left r q ≡ end)
    (x : Row) (is : x ≡ M r) (a : Bool) (same : a ≡ is_same q x) where
  a_is : (v : Bool) → a ≡ v → is_same q (M r) ≡ v
  a_is v e = ap (is_same q) (sym is) ∙ sym same ∙ e

  pub held_same : a ≡ true → true ≡ end
  held_same e = sym (same_held w M q r left (a_is true e)) ∙ inv

  pub held_last : left ≤ 0 → a ≡ end
  held_last h = same ∙ ap (is_same q) is ∙ sym (last_held w M q r left h) ∙ inv

  module _ (pos : 0 < left) (other : a ≡ false) (depth : ℕ) (d : depth ≡ w - left) (o : Bool) (over : o ≡ outranks_row depth q x) where
    o_is : (v : Bool) → o ≡ v → outranks_row (w - left) q (M r) ≡ v
    o_is v e = ap₂ (λ (j : ℕ) (y : Row). outranks_row j q y) (sym d) (sym is) ∙ sym over ∙ e

    pub held_over : o ≡ true → false ≡ end
    held_over e = sym (outranks_held w M q r left pos (a_is false other) (o_is true e)) ∙ inv

    module _ (under : o ≡ false) (b : Bool) (bit : b ≡ bit_before q.value (left - 1)) (c : ℕ) (kid : c ≡ child x b) where
      c_is : c ≡ child (M r) (bit_before q.value (left - 1))
      c_is = kid ∙ ap₂ (λ (y : Row) (e : Bool). child y e) is bit

      pub held_none : c ≡ 0 → false ≡ end
      held_none e = sym (none_held w M q r left pos (a_is false other) (o_is false under) (sym c_is ∙ e)) ∙ inv

      pub held_next : (c ≡ 0 → ⊥) → held_at w M (left - 1) c q ≡ end
      held_next ne =
          ap (λ (j : ℕ). held_at w M (left - 1) j q) c_is
          ∙ sym (next_held w M q r left pos (a_is false other) (o_is false under) (λ e. ne (c_is ∙ e))) ∙ inv

-- a plan from the code's values
pub plan_with_is : (x : Row) (k : ℕ) (holder lower : Route) (upper : Row) (right : Bool) (c : ℕ)
    → upper ≡ with_route x holder → right ≡ bit_before lower.value k → c ≡ child x right
    → ◌≡◌ {A = Plan} (record { upper = upper; lower = lower; right = right; child = c }) (plan_by x k holder lower)
plan_with_is x k holder lower upper right c eu er ec =
    let e : c ≡ child x (bit_before lower.value k) = ec ∙ ap (child x) er in
    λ i. record { upper = eu i; lower = lower; right = er i; child = e i }

-- the route takes the place, or the row keeps its holder
module _ (w : ℕ) (x : Row) (q : Route) (k d : ℕ) (over : Bool) (deep : d ≡ w - suc k) (is : over ≡ outranks_row d q x) (own : Route)
    (own_is : own ≡ route_of x) where
  outranks_is : (b : Bool) → over ≡ b → outranks_row (w - suc k) q x ≡ b
  outranks_is b e = ap (λ (j : ℕ). outranks_row j q x) (sym deep) ∙ sym is ∙ e

  pub plan_over : over ≡ true → plan_by x k q own ≡ plan_of w x q k
  plan_over e = ap (plan_by x k q) own_is ∙ sym (rw (outranks_is true e))

  pub plan_under : over ≡ false → plan_by x k own q ≡ plan_of w x q k
  plan_under e = ap (λ (r : Route). plan_by x k r q) own_is ∙ sym (rw (outranks_is false e))
