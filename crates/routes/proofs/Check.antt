-- The check of a list refuses exactly in the listed cases: RULES, "Order of the checks". Assumes nothing.
use mathlib.Core.Path.{◌≡◌, refl, sym, ap, ◌∙◌}
use mathlib.Core.Logic.{◌⊎◌, inl, inr}
use mathlib.Core.Bool.{true, false, or-true}
use mathlib.Core.List.{List}
use Prim.Native.Nat.{ℕ, zero, suc, ◌+◌, ◌*◌, ◌-◌, ◌%◌, ◌^◌, ◌≤◌, ◌<◌}
use native.Mathlib.Omega.{arith}
use lib.Dec.{eqb, leb}
use lib.ListN.{length}
use borrow.Author.Tests.{eq-eqb, ne_eqb, eqb-true, eqb-false, le-leb, lt-leb, leb-true, leb-false}
use Rattle.lists.proofs.Tests.{way}
use Rattle.refusals.specs.Refusals.{long_prefix, not_above, refused, accepted}
use Rattle.routes.specs.Bounds.{most_routes}
use Rattle.routes.specs.Routes.{route_at, route_count, ValidList, Words, Sized}
use Rattle.routes.specs.Check.{above, fault_at, first_fault, routes_check, list_check}
use Rattle.routes.specs.Theorems.{CheckDone, CheckRefused, CheckUnsized, CheckSized}
use Rattle.routes.specs.declared.Route.{Route}
use Rattle.refusals.specs.declared.Answer.{Answer}
use Rattle.routes.proofs.Faults.{fault_range, fault_none, none_fault, faultless_valid, faultless_rises, valid_faultless}
use Rattle.routes.proofs.First.{NoneBelow, Searched, searched, first_fault_none, first_fault_found, accepted_none, refused_found}

-- a list that is well sized is checked route by route
pub list_check_sized : (w : ℕ) (words : List ℕ) → Sized words
    → list_check w words ≡ first_fault (fault_at w (route_at words)) (route_count words) 0
unfolding list_check routes_check
list_check_sized w words ok = rw (eq-eqb (length words % 3) 0 ok.whole, le-leb (route_count words) most_routes ok.few)

pub check_unsized : CheckUnsized
unfolding list_check routes_check
check_unsized w words = (
  λ odd. rw (ne_eqb (length words % 3) 0 odd),
  λ whole many. rw (eq-eqb (length words % 3) 0 whole, lt-leb (route_count words) most_routes many),
)

-- an accepted list is well sized
pub accepted_sized : (w : ℕ) (words : List ℕ) → (list_check w words).number ≡ 0 → Sized words
accepted_sized w words e = go (way (eqb (length words % 3) 0)) (way (leb (route_count words) most_routes))
  where
    go : (eqb (length words % 3) 0 ≡ true) ⊎ (eqb (length words % 3) 0 ≡ false)
        → (leb (route_count words) most_routes ≡ true) ⊎ (leb (route_count words) most_routes ≡ false) → Sized words
    go (inr t) u =
        absurd (omega (arith, ap (λ (a : Answer). a.number) ((check_unsized w words).0 (eqb-false (length words % 3) 0 t))))
    go (inl t) (inr u) =
        absurd
        (omega (arith, ap (λ (a : Answer). a.number) ((check_unsized w words).1 (eqb-true (length words % 3) 0 t) (leb-false (route_count words) most_routes u))))
    go (inl t) (inl u) = record { whole = eqb-true (length words % 3) 0 t; few = leb-true (route_count words) most_routes u }

-- routes without a fault are a valid list, and back
none_valid : (w : ℕ) (R : ℕ → Route) (n : ℕ) → n ≤ most_routes → ((i : ℕ) → (R i).value < 2 ^ w)
    → NoneBelow (fault_at w R) n → ValidList w R n
none_valid w R n few fits none = record {
  few = few;
  each = λ i h. faultless_valid w R i (fits i) (fault_none w R i (none i h));
  rises = λ i h. faultless_rises w R i (fault_none w R (i + 1) (none (i + 1) h));
}

-- a valid list is above at each route
pub valid_above : (w : ℕ) (R : ℕ → Route) (n i : ℕ) → ValidList w R n → i < n → above R i ≡ true
valid_above w R n zero ok h = refl
valid_above w R n (suc i) ok h =
    let e : suc i - 1 ≡ i = omega arith in
    let f : i + 1 ≡ suc i = omega arith in
    rw (e, rw f at (ok.rises i (omega arith)), or-true)

valid_none : (w : ℕ) (R : ℕ → Route) (n : ℕ) → ValidList w R n → NoneBelow (fault_at w R) n
valid_none w R n ok i h = none_fault w R i (valid_faultless w R i (ok.each i h) (valid_above w R n i ok h))

-- words of valid routes alone are accepted
pub valid_accepted : (w : ℕ) (words : List ℕ) → length words % 3 ≡ 0 → ValidList w (route_at words) (route_count words)
    → list_check w words ≡ accepted 0
valid_accepted w words whole ok =
    list_check_sized w words (record { whole = whole; few = ok.few })
    ∙ first_fault_none (fault_at w (route_at words)) (route_count words) (valid_none w (route_at words) (route_count words) ok)

-- what the check accepts, of words
pub accepted_valid : (w : ℕ) (words : List ℕ) → Words w words → (list_check w words).number ≡ 0
    → ValidList w (route_at words) (route_count words)
accepted_valid w words fits e =
    let sized = accepted_sized w words e in
    none_valid w (route_at words) (route_count words) sized.few (λ i. fits (i * 3))
    (accepted_none (fault_at w (route_at words)) (route_count words) (ap (λ (a : Answer). a.number) (sym (list_check_sized w words sized)) ∙ e))

pub check_done : CheckDone
check_done w words fits = (
  λ e.
      let z = ap (λ (a : Answer). a.number) e in
      ((accepted_sized w words z).whole, accepted_valid w words fits z),
  λ ok. valid_accepted w words ok.0 ok.1,
)

pub check_refused : CheckRefused
check_refused w words m i sized wrong = (
  λ e.
      refused_found (fault_at w (route_at words)) (route_count words) m i wrong (sym (list_check_sized w words sized) ∙ e),
  λ found. list_check_sized w words sized ∙ first_fault_found (fault_at w (route_at words)) (route_count words) m i found,
)

pub check_sized : CheckSized
check_sized w words sized = go (searched (fault_at w (route_at words)) (route_count words))
  where
    number_is : (m i : ℕ) → first_fault (fault_at w (route_at words)) (route_count words) 0 ≡ refused m i → (list_check w words).number ≡ m
    number_is m i e = ap (λ (a : Answer). a.number) (list_check_sized w words sized ∙ e)

    go : Searched (fault_at w (route_at words)) (route_count words)
        → ((list_check w words).number ≡ 0) ⊎ ((long_prefix ≤ (list_check w words).number) × ((list_check w words).number ≤ not_above))
    go (inl none) = inl (number_is 0 0 (first_fault_none (fault_at w (route_at words)) (route_count words) none))
    go (inr x) =
        rw (number_is x.0 x.1 (first_fault_found (fault_at w (route_at words)) (route_count words) x.0 x.1 x.2), ← x.2.here)
        (fault_range w (route_at words) x.1)
