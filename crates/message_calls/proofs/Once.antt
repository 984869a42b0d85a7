-- Laws of lists of different things: what is among those that pass and among each once, and how many they are. Assumes nothing.
use mathlib.Core.Path.{◌≡◌, refl, sym, ap, ◌∙◌}
use mathlib.Core.Logic.{◌⊎◌, inl, inr, ⊎_elim}
use mathlib.Core.Bool.{Bool, true, false, not, ◌&&◌, ◌||◌, and-false, or_assoc, true≢false, false≢true}
use mathlib.Core.List.{List, [], ◌∷◌, ◌++◌}
use Prim.Native.Nat.{ℕ, zero, suc, ◌+◌, ◌≤◌, ◌<◌}
use native.Mathlib.Omega.{arith}
use lib.Dec.{eqb}
use lib.ListN.{length}
use borrow.Author.Tests.{eqb-true, eqb-false}
use Rattle.lists.specs.Numbered.{list_of}
use Rattle.lists.proofs.Numbered.{Among}
use Rattle.lists.proofs.Tests.{way, either, test_no}
use Rattle.message_calls.specs.Once.{ahead, those, among, once_after, Differ}

-- tests, by cases
or-true : (a b : Bool) → b ≡ true → (a || b) ≡ true
or-true true b h = refl
or-true false b h = h

module _ {A : Type 0} (test : A → Bool) where
  -- those that pass and those that do not are all
  pub length_split : (xs : List A) → length (those test xs) + length (those (λ x. not (test x)) xs) ≡ length xs
  unfolding those
  length_split [] = refl
  length_split (x ∷ xs) = by (test x) (length_split xs)
    where
      by : (b : Bool) → length (those test xs) + length (those (λ y. not (test y)) xs) ≡ length xs
          → length (ahead b x (those test xs)) + length (ahead (not b) x (those (λ y. not (test y)) xs)) ≡ suc (length xs)
      by true ih = omega arith
      by false ih = omega arith

-- no more than there are
ahead_le : {A : Type 0} (b : Bool) (x : A) (xs : List A) (k : ℕ) → length xs ≤ k → length (ahead b x xs) ≤ suc k
ahead_le true x xs k h = omega arith
ahead_le false x xs k h = omega arith

pub those_le : {A : Type 0} (test : A → Bool) (xs : List A) → length (those test xs) ≤ length xs
unfolding those
those_le test [] = omega arith
those_le test (x ∷ xs) = ahead_le (test x) x (those test xs) (length xs) (those_le test xs)

pub once_le : {A : Type 0} (same : A → A → Bool) (past xs : List A) → length (once_after same past xs) ≤ length xs
unfolding once_after
once_le same past [] = omega arith
once_le same past (x ∷ xs) =
    ahead_le (not (among same x past)) x (once_after same (x ∷ past) xs) (length xs) (once_le same (x ∷ past) xs)

module _ {A : Type 0} (same : A → A → Bool) (self : (x : A) → same x x ≡ true) (eq : (x y : A) → same x y ≡ true → x ≡ y) where
  pub among_append : (z : A) (xs ys : List A) → among same z (xs ++ ys) ≡ (among same z xs || among same z ys)
  unfolding among
  among_append z [] ys = refl
  among_append z (x ∷ xs) ys = rw (among_append z xs ys) (sym (or_assoc (same z x) (among same z xs) (among same z ys)))

  pub among_those : (test : A → Bool) (z : A) (xs : List A) → among same z (those test xs) ≡ (among same z xs && test z)
  unfolding among those
  among_those test z [] = refl
  among_those test z (x ∷ xs) = by (among_those test z xs) (way (same z x)) (test x) refl
    where
      by : among same z (those test xs) ≡ (among same z xs && test z) → (same z x ≡ true) ⊎ (same z x ≡ false) → (b : Bool) → test x ≡ b
          → among same z (ahead b x (those test xs)) ≡ ((same z x || among same z xs) && test z)
      by ih (inl s) true e = rw s (sym (ap test (eq z x s) ∙ e))
      by ih (inl s) false e = let f : test z ≡ false = ap test (eq z x s) ∙ e in ih ∙ rw (s, f) (and-false (among same z xs))
      by ih (inr s) true e = rw s ih
      by ih (inr s) false e = rw s ih

  pub among_once : (z : A) (past xs : List A) → among same z (once_after same past xs) ≡ (among same z xs && not (among same z past))
  unfolding among once_after
  among_once z past [] = refl
  among_once z past (x ∷ xs) = by (among_once z (x ∷ past) xs) (way (same z x)) (among same x past) refl
    where
      by : among same z (once_after same (x ∷ past) xs) ≡ (among same z xs && not (same z x || among same z past))
          → (same z x ≡ true) ⊎ (same z x ≡ false) → (b : Bool) → among same x past ≡ b
          → among same z (ahead (not b) x (once_after same (x ∷ past) xs)) ≡ ((same z x || among same z xs) && not (among same z past))
      by rest (inl s) true e =
          let f : among same z past ≡ true = ap (λ (y : A). among same y past) (eq z x s) ∙ e in
          rest ∙ rw (s, f) (and-false (among same z xs))
      by rest (inl s) false e = rw s (sym (ap (λ (y : A). not (among same y past)) (eq z x s) ∙ ap not e))
      by rest (inr s) true e = rest ∙ rw s
      by rest (inr s) false e = rw s (rest ∙ rw s)

  pub differ_those : (test : A → Bool) (xs : List A) → Differ same xs → Differ same (those test xs)
  unfolding Differ those
  differ_those test [] d = tt
  differ_those test (x ∷ xs) d = by (test x) (differ_those test xs d.1)
    where
      by : (b : Bool) → Differ same (those test xs) → Differ same (ahead b x (those test xs))
      by true ih = (among_those test x xs ∙ rw d.0, ih)
      by false ih = ih

  pub differ_once : (past xs : List A) → Differ same (once_after same past xs)
  unfolding Differ once_after among
  differ_once past [] = tt
  differ_once past (x ∷ xs) = by (not (among same x past)) (differ_once (x ∷ past) xs)
    where
      by : (b : Bool) → Differ same (once_after same (x ∷ past) xs) → Differ same (ahead b x (once_after same (x ∷ past) xs))
      by true ih = (among_once x (x ∷ past) xs ∙ rw (self x) (and-false (among same x xs)), ih)
      by false ih = ih

  pub differ_append : (xs ys : List A) → Differ same xs → Differ same ys → ((z : A) → among same z xs ≡ true → among same z ys ≡ false)
      → Differ same (xs ++ ys)
  unfolding Differ among
  differ_append [] ys d e apart = e
  differ_append (x ∷ xs) ys d e apart = (
    among_append x xs ys ∙ rw d.0 (apart x (rw (self x))),
    differ_append xs ys d.1 e (λ z h. apart z (or-true (same z x) (among same z xs) h)),
  )

  -- one that is among others makes them at least one
  some : (z : A) (xs : List A) → among same z xs ≡ true → 0 < length xs
  unfolding among
  some z [] h = absurd (false≢true h)
  some z (x ∷ xs) h = omega arith

  -- different ones that are all among others are no more than those
  pub no_more : (xs ys : List A) → Differ same xs → ((z : A) → among same z xs ≡ true → among same z ys ≡ true) → length xs ≤ length ys
  unfolding Differ among
  no_more [] ys d in_ys = omega arith
  no_more (x ∷ xs) ys d in_ys =
      let rest : List A = those (λ y. not (same x y)) ys in
      let x-there : among same x (those (same x) ys) ≡ true = among_those (same x) x ys ∙ rw (in_ys x (rw (self x)), self x) in
      omega (arith, length_split (same x) ys, some x (those (same x) ys) x-there, no_more xs rest d.1 (λ z h. kept z h))
    where
      apart : (z : A) → among same z xs ≡ true → same x z ≡ false
      apart z h = test_no (same x z) (λ s. true≢false (sym h ∙ ap (λ (y : A). among same y xs) (sym (eq x z s)) ∙ d.0))

      kept : (z : A) → among same z xs ≡ true → among same z (those (λ y. not (same x y)) ys) ≡ true
      kept z h =
          among_those (λ y. not (same x y)) z ys ∙ rw (in_ys z (or-true (same z x) (among same z xs) h), apart z h)

  -- what is among numbered ones has a number
  pub among_numbered : (R : ℕ → A) (k i : ℕ) (z : A) → among same z (list_of R k i) ≡ true → Among R k i z
  unfolding among list_of
  among_numbered R zero i z h = absurd (false≢true h)
  among_numbered R (suc k) i z h = by (λ t. among_numbered R k (i + 1) z t) (either (same z (R i)) (among same z (list_of R k (i + 1))) h)
    where
      by : (among same z (list_of R k (i + 1)) ≡ true → Among R k (i + 1) z)
          → (same z (R i) ≡ true) ⊎ (among same z (list_of R k (i + 1)) ≡ true) → Among R (suc k) i z
      by ih (inl s) = record { at = i; from = omega arith; below = omega arith; is = eq z (R i) s }
      by ih (inr t) = let a = ih t in record { at = a.at; from = omega (arith, a.from); below = omega (arith, a.below); is = a.is }

  pub numbered_among : (R : ℕ → A) (k i j : ℕ) → i ≤ j → j < i + k → among same (R j) (list_of R k i) ≡ true
  unfolding among list_of
  numbered_among R zero i j h l = absurd (omega arith)
  numbered_among R (suc k) i j h l =
      ⊎_elim
      (λ (e : eqb i j ≡ true).
      let s : same (R j) (R i) ≡ true = ap (λ (m : ℕ). same (R j) (R m)) (eqb-true i j e) ∙ self (R j) in
      rw s)
      (λ (e : eqb i j ≡ false).
      let ne : (i ≡ j → ⊥) = eqb-false i j e in
      or-true (same (R j) (R i)) (among same (R j) (list_of R k (i + 1))) (numbered_among R k (i + 1) j (omega arith) (omega arith)))
      (way (eqb i j))

  -- numbered ones that differ by number are different
  pub differ_numbered : (R : ℕ → A) (n : ℕ) → ((i j : ℕ) → i < n → j < n → R i ≡ R j → i ≡ j) → (k i : ℕ) → i + k ≤ n → Differ same (list_of R k i)
  unfolding Differ list_of
  differ_numbered R n one zero i h = tt
  differ_numbered R n one (suc k) i h = (
    test_no (among same (R i) (list_of R k (i + 1)))
        (λ t.
        let a = among_numbered R k (i + 1) (R i) t in
        let e : i ≡ a.at = one i a.at (omega arith) (omega (arith, a.below)) a.is in
        omega (arith, a.from)),
    differ_numbered R n one k (i + 1) (omega arith),
  )
