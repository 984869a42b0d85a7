-- Which slots have no route of their own, by where the next route lies. Assumes nothing.
use mathlib.Core.Path.{◌≡◌, refl, sym, ap₂, ◌∙◌, subst}
use mathlib.Core.Bool.{Bool, true, false, cond}
use Prim.Native.Nat.{ℕ, ◌-◌, ◌/◌, ◌^◌, ◌≤◌}
use native.Mathlib.Omega.{arith}
use native.Mathlib.Nat.{le_trans, mul-le-mul_right, div-mul-le_self}
use lib.Dec.{eqb, ltb, leb}
use borrow.Author.Tests.{leb-true, leb-false}
use Rattle.bits.specs.Prefix.{span}
use Rattle.routes.specs.declared.Route.{Route}
use Rattle.image_stretch.specs.declared.Stretch.{Stretch}
use Rattle.image_stretch.specs.Stretches.{short_after}
use Rattle.image_stretch.specs.Needs.{Clear}
use Rattle.image_search.specs.declared.Search.{Search}
use Rattle.image_search.specs.Search.{slot_of, clear_to, search_from, search_after}

module _ (w : ℕ) (R : ℕ → Route) (m : ℕ) (x : Stretch) (address l : ℕ) where
  -- by the three tests of the code, on the route that it read
  pub clear_by : (at : ℕ) (v : Route) → v ≡ R at → (k : ℕ) → k ≡ w - l → (a b c : Bool) → leb x.hi at ≡ a → ltb v.value address ≡ b
      → leb m ((v.value - address) / 2 ^ k) ≡ c → cond a m (cond b 0 (cond c m ((v.value - address) / 2 ^ k))) ≡ clear_to w R m x at address l
  unfolding clear_to
  clear_by at v is k e a b c p q r =
      sym (ap₂ (λ (u : Route) (j : ℕ). cond (leb x.hi at) m (cond (ltb u.value address) 0 (cond (leb m ((u.value - address) / 2 ^ j)) m ((u.value - address) / 2 ^ j))))
      (sym is) (sym e) ∙ rw (p, q, r))

  -- slots up to that of the next route
  clear_slots : (at r : ℕ) → r ≤ m → r ≤ slot_of w address l (R at).value → Clear w R m x at at address l r
  clear_slots at r h k = record {
    few = h;
    none = λ i. refl;
    later = λ i. le_trans (mul-le-mul_right (span w l) k) (div-mul-le_self ((R at).value - address) (span w l));
  }

  pub from_clear : (at : ℕ) → Clear w R m x at at address l (clear_to w R m x at address l)
  unfolding clear_to
  from_clear at = by (leb x.hi at) refl (ltb (R at).value address) (leb m (slot_of w address l (R at).value)) refl
    where
      by : (a : Bool) → leb x.hi at ≡ a → (b c : Bool) → leb m (slot_of w address l (R at).value) ≡ c
          → Clear w R m x at at address l (cond a m (cond b 0 (cond c m (slot_of w address l (R at).value))))
      by true p b c q = record { few = omega arith; none = λ i. refl; later = λ i. absurd (omega (arith, leb-true x.hi at p)) }
      by false p true c q = clear_slots at 0 (omega arith) (omega arith)
      by false p false true q = clear_slots at m (omega arith) (leb-true m (slot_of w address l (R at).value) q)
      by false p false false q = clear_slots at (slot_of w address l (R at).value) (omega (arith, leb-false m (slot_of w address l (R at).value) q)) (omega arith)

  -- after a slot
  pub after_clear : (short : ℕ) (y : Stretch) (n : Search) → n ≡ search_after w R m x short y address l
      → (n.short ≡ short_after short y) × (n.route ≡ y.hi) × Clear w R m x n.short n.route address l n.clear
  after_clear short y n e =
      subst (λ (q : Search). (q.short ≡ short_after short y) × (q.route ≡ y.hi) × Clear w R m x q.short q.route address l q.clear) (sym e)
      (by (eqb y.lo short))
    where
      next : Bool → Search
      next b = cond b (search_from w R m x y.hi address l) (record { short = short; route = y.hi; clear = 0 })

      by : (b : Bool) → ((next b).short ≡ cond b y.hi short) × ((next b).route ≡ y.hi) × Clear w R m x (next b).short (next b).route address l (next b).clear
      by true = (refl, refl, from_clear y.hi)
      by false = (refl, refl, record { few = omega arith; none = λ i. absurd (omega arith); later = λ i. omega arith })
