-- The search for the first fault: one turn of it, and what it finds. Assumes nothing.
use mathlib.Core.Path.{◌≡◌, refl, sym, ap, ◌∙◌}
use mathlib.Core.Logic.{◌⊎◌, inl, inr, ⊎_elim}
use mathlib.Core.Bool.{true, false}
use Prim.Native.Nat.{ℕ, zero, suc, ◌+◌, ◌-◌, ◌≤◌, ◌<◌}
use native.Mathlib.Omega.{arith}
use native.Mathlib.Nat.{sub-zero}
use native.Mathlib.Numerals.{add-one}
use lib.Dec.{eqb}
use borrow.Author.Count.{below_none, below_more}
use borrow.Author.Tests.{eqb-true, eqb-false, ne_eqb}
use Rattle.lists.proofs.Tests.{way}
use Rattle.refusals.specs.Refusals.{refused, accepted}
use Rattle.routes.specs.Check.{first_fault, FirstFault}
use Rattle.refusals.specs.declared.Answer.{Answer}

-- one turn at place i of n
module _ (f : ℕ → ℕ) (n i : ℕ) where
  pub first_fault_more : i < n → f i ≡ 0 → first_fault f (n - i) i ≡ first_fault f (n - (i + 1)) (i + 1)
  unfolding first_fault
  first_fault_more h e = let p : n - i ≡ suc (n - (i + 1)) = omega arith in rw p (simp e)

  pub first_fault_here : i < n → (f i ≡ 0 → ⊥) → first_fault f (n - i) i ≡ refused (f i) i
  unfolding first_fault
  first_fault_here h e = let p : n - i ≡ suc (n - (i + 1)) = omega arith in rw p (simp (ne_eqb (f i) 0 e))

  pub first_fault_all : n ≤ i → first_fault f (n - i) i ≡ accepted 0
  unfolding first_fault
  first_fault_all h = let p : n - i ≡ 0 = omega arith in rw p

-- no fault below i
abbrev pub NoneBelow : (ℕ → ℕ) → ℕ → Type 0
NoneBelow f i = (j : ℕ) → j < i → f j ≡ 0

-- where the first i places have no fault, the search goes on there
pub first_fault_from : (f : ℕ → ℕ) (n i : ℕ) → i ≤ n → NoneBelow f i → first_fault f n 0 ≡ first_fault f (n - i) i
first_fault_from f n zero h e = rw (sub-zero n)
first_fault_from f n (suc i) h e =
    let p : i + 1 ≡ suc i = omega arith in
    first_fault_from f n i (omega arith) (λ j l. e j (omega arith))
    ∙ rw p at (first_fault_more f n i (omega arith) (e i (omega arith)))

pub first_fault_none : (f : ℕ → ℕ) (n : ℕ) → NoneBelow f n → first_fault f n 0 ≡ accepted 0
first_fault_none f n e = first_fault_from f n n (omega arith) e ∙ first_fault_all f n n (omega arith)

pub first_fault_found : (f : ℕ → ℕ) (n m i : ℕ) → FirstFault f n m i → first_fault f n 0 ≡ refused m i
first_fault_found f n m i r =
    first_fault_from f n i (omega arith) r.none
    ∙ first_fault_here f n i r.within (λ z. r.wrong (sym r.here ∙ z))
    ∙ ap (λ (x : ℕ). refused x i) r.here

-- some place is the first at fault, or none is
abbrev pub Searched : (ℕ → ℕ) → ℕ → Type 0
Searched f n = NoneBelow f n ⊎ ((m : ℕ) × (i : ℕ) × FirstFault f n m i)

searched_more : (f : ℕ → ℕ) (n : ℕ) → Searched f n → Searched f (n + 1)
searched_more f n (inr x) =
    let p = x.2 in
    inr (x.0, x.1, record { within = omega arith; here = p.here; wrong = p.wrong; none = p.none })
searched_more f n (inl e) =
    ⊎_elim
    (λ (t : eqb (f n) 0 ≡ true). inl (below_more (λ j. f j ≡ 0) n e (eqb-true (f n) 0 t)))
    (λ (t : eqb (f n) 0 ≡ false).
    inr (f n, n, record { within = omega arith; here = refl; wrong = eqb-false (f n) 0 t; none = e }))
    (way (eqb (f n) 0))

pub searched : (f : ℕ → ℕ) (n : ℕ) → Searched f n
searched f zero = inl (below_none (λ j. f j ≡ 0))
searched f (suc n) = rw (← add-one n) (searched_more f n (searched f n))

-- what the search answers says what there is
pub accepted_none : (f : ℕ → ℕ) (n : ℕ) → (first_fault f n 0).number ≡ 0 → NoneBelow f n
accepted_none f n e = go (searched f n)
  where
    go : Searched f n → NoneBelow f n
    go (inl none) = none
    go (inr x) = absurd (x.2.wrong (sym (ap (λ (a : Answer). a.number) (first_fault_found f n x.0 x.1 x.2)) ∙ e))

pub refused_found : (f : ℕ → ℕ) (n m i : ℕ) → (m ≡ 0 → ⊥) → first_fault f n 0 ≡ refused m i → FirstFault f n m i
refused_found f n m i wrong e = go (searched f n)
  where
    go : Searched f n → FirstFault f n m i
    go (inl none) = absurd (wrong (ap (λ (a : Answer). a.number) (sym e ∙ first_fault_none f n none)))
    go (inr x) =
        let q : refused x.0 x.1 ≡ refused m i = sym (first_fault_found f n x.0 x.1 x.2) ∙ e in
        rw (ap (λ (a : Answer). a.number) q, ap (λ (a : Answer). a.place) q) at x.2
