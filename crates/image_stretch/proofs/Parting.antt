-- The slots of a node of a valid list part its routes: RULES, "The image". Assumes nothing.
use mathlib.Core.Path.{◌≡◌, sym, subst}
use mathlib.Core.Bool.{true, false}
use mathlib.Core.Logic.{◌⊎◌, inl, inr, ⊎_elim}
use Prim.Native.Nat.{ℕ, suc, ◌+◌, ◌-◌, ◌*◌, ◌^◌, ◌≤◌, ◌<◌}
use native.Mathlib.Omega.{arith}
use native.Mathlib.Nat.{suc-mul, mul-le-mul_right}
use borrow.Author.Tests.{eqb-true}
use Rattle.bits.specs.Prefix.{span, head}
use Rattle.lists.proofs.Tests.{test_no, lt_or_le}
use Rattle.bits.proofs.Prefix.{head_shorter, head_within, head_start}
use Rattle.bits.proofs.Order.{precedes_yes}
use Rattle.routes.specs.Routes.{ValidList}
use Rattle.routes.specs.Scan.{route_matches}
use Rattle.routes.specs.declared.Route.{Route}
use Rattle.image_stretch.specs.declared.Stretch.{Stretch}
use Rattle.image_stretch.specs.Stretches.{stands_before, slot_stretch, slot_first}
use Rattle.image_stretch.specs.Needs.{Parted}
use Rattle.image_stretch.proofs.Places.{Place, ahead_later, at, at_is, slot_place, slot_address_is}
use Rattle.image_stretch.proofs.Alikes.{own_value}
use Rattle.image_stretch.proofs.Trees.{Stands, fits_of}

module _ (w s : ℕ) (R : ℕ → Route) (n : ℕ) (ok : ValidList w R n) (x : Stretch) (h : ℕ) (p : Place w R n h x) (fits : x.depth + s ≤ w)
    (j i k : ℕ) (l : j < i) (m : i < 2 ^ s) where
  abbrev deeper : ℕ
  deeper = x.depth + s

  abbrev low : j < 2 ^ s
  low = omega arith

  abbrev at_of : (c : ℕ) → c < 2 ^ s → ℕ
  at_of c q = at w R n ok x h p s c fits q

  abbrev y : Stretch
  y = slot_stretch w R x (at_of j low) deeper

  place : Place w R n (h * 2 ^ s + j) y
  place = slot_place w R n ok x h p s j fits low

  -- slot j ends before slot i begins
  apart_le : at_of j low + span w deeper ≤ at_of i m
  apart_le =
      let t : suc j * span w deeper ≤ i * span w deeper = mul-le-mul_right (span w deeper) l in
      omega (arith, t, suc-mul j (span w deeper), at_is w R n ok x h p s j fits low, at_is w R n ok x h p s i fits m)

  slot_ahead : k < y.hi → stands_before R (at_of i m) deeper k ≡ true
  unfolding slot_stretch
  slot_ahead b =
      precedes_yes (R k).value (R k).len (at_of i m) deeper
      (⊎_elim
      (λ (q : k < y.lo). ahead_later (place.first k q) (omega (arith, apart_le)) (omega arith))
      (λ (q : y.lo ≤ k). inl (omega (arith, (head_within w deeper (R k).value (h * 2 ^ s + j) (place.inside k q b)).1, apart_le)))
      (lt_or_le k y.lo))

  slot_apart : y.lo ≤ k → k < y.hi → route_matches w (at_of i m) (R k) ≡ false
  unfolding slot_stretch
  slot_apart a b = test_no (route_matches w (at_of i m) (R k)) (λ t. ⊎_elim (short t) (long t) (lt_or_le (R k).len deeper))
    where
      same : route_matches w (at_of i m) (R k) ≡ true → head w (R k).len (at_of i m) ≡ head w (R k).len (R k).value
      same t = eqb-true (head w (R k).len (at_of i m)) (head w (R k).len (R k).value) t

      -- a shorter route of slot j would be the slot's first, and stand before it
      short : route_matches w (at_of i m) (R k) ≡ true → (R k).len < deeper → ⊥
      short t q = place.from k a (omega (arith, place.most)) (inr (own_value w R n ok y (h * 2 ^ s + j) place k a b (omega arith), q))

      long : route_matches w (at_of i m) (R k) ≡ true → deeper ≤ (R k).len → ⊥
      long t q =
          let e : head w deeper (at_of i m) ≡ head w deeper (R k).value
          = head_shorter w deeper (R k).len (at_of i m) (R k).value q (ok.each k (omega (arith, place.most))).prefix.short (same t) in
          omega (arith, e, place.inside k a b, head_start w deeper (h * 2 ^ s + i))

pub stands_parted : (w s : ℕ) (R : ℕ → Route) (n : ℕ) (ok : ValidList w R n) (c : ℕ) (x : Stretch) → Stands w s R n c x → Parted w R s (2 ^ s) x
stands_parted w s R n ok c x t = record {
  ahead = λ j i k l m a b. subst (λ (v : ℕ). stands_before R v (x.depth + s) k ≡ true) (sym (is i m))
      (slot_ahead w s R n ok x t.bits_at t.place fits j i k l m (subst (λ (v : ℕ). k < (slot_stretch w R x v (x.depth + s)).hi) (is j (omega arith)) b));
  apart = λ j i k l m a b. subst (λ (v : ℕ). route_matches w v (R k) ≡ false) (sym (is i m))
      (slot_apart w s R n ok x t.bits_at t.place fits j i k l m
      (subst (λ (v : ℕ). (slot_stretch w R x v (x.depth + s)).lo ≤ k) (is j (omega arith)) a)
      (subst (λ (v : ℕ). k < (slot_stretch w R x v (x.depth + s)).hi) (is j (omega arith)) b));
}
  where
    fits : x.depth + s ≤ w
    fits = fits_of w s R n ok c x t

    is : (j : ℕ) (l : j < 2 ^ s) → slot_first w R s x j ≡ at w R n ok x t.bits_at t.place s j fits l
    is j l = slot_address_is w R n ok x t.bits_at t.place s j fits l t.found
