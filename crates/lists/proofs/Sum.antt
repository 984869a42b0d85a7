-- Sums of a function over the numbers below n: a sum of terms of at most 1 that comes to n has each of them 1. Assumes nothing.
use mathlib.Core.Path.{◌≡◌, refl, ap, ◌∙◌}
use mathlib.Core.Logic.{◌⊎◌, inl, inr}
use mathlib.Core.Bool.{true, false}
use Prim.Native.Nat.{ℕ, zero, suc, ◌+◌, ◌<◌, ◌≤◌}
use native.Mathlib.Omega.{arith}
use lib.Dec.{eqb}
use borrow.Author.Tests.{eqb-true, eqb-false}
use Rattle.lists.proofs.Tests.{way}

-- f 0 + .. + f (n - 1)
abbrev pub sum : (ℕ → ℕ) → ℕ → ℕ
sum f zero = 0
sum f (suc n) = sum f n + f n

pub sum_none : (f : ℕ → ℕ) (n : ℕ) → ((i : ℕ) → i < n → f i ≡ 0) → sum f n ≡ 0
sum_none f zero h = refl
sum_none f (suc n) h = omega (arith, sum_none f n (λ i l. h i (omega arith)), h n (omega arith))

pub sum_ones : (f : ℕ → ℕ) (n : ℕ) → ((i : ℕ) → i < n → f i ≡ 1) → sum f n ≡ n
sum_ones f zero h = refl
sum_ones f (suc n) h = omega (arith, sum_ones f n (λ i l. h i (omega arith)), h n (omega arith))

pub sum_add : (f g : ℕ → ℕ) (n : ℕ) → sum (λ i. f i + g i) n ≡ sum f n + sum g n
sum_add f g zero = refl
sum_add f g (suc n) = omega (arith, sum_add f g n)

sum_le : (f : ℕ → ℕ) (n : ℕ) → ((i : ℕ) → i < n → f i ≤ 1) → sum f n ≤ n
sum_le f zero h = omega arith
sum_le f (suc n) h = omega (arith, sum_le f n (λ i l. h i (omega arith)), h n (omega arith))

pub sum_full : (f : ℕ → ℕ) (n : ℕ) → ((i : ℕ) → i < n → f i ≤ 1) → sum f n ≡ n → (i : ℕ) → i < n → f i ≡ 1
sum_full f zero h e i l = absurd (omega arith)
sum_full f (suc n) h e i l = go (way (eqb i n)) (sum_full f n below (omega (arith, sum_le f n below, h n (omega arith))))
  where
    below : (i : ℕ) → i < n → f i ≤ 1
    below i l = h i (omega arith)

    go : (eqb i n ≡ true) ⊎ (eqb i n ≡ false) → ((i : ℕ) → i < n → f i ≡ 1) → f i ≡ 1
    go (inl t) ih = ap f (eqb-true i n t) ∙ omega (arith, sum_le f n below, h n (omega arith))
    go (inr t) ih = let ne : (i ≡ n → ⊥) = eqb-false i n t in ih i (omega arith)
