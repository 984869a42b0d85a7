-- Laws of tests of the numbers below n: one that passes, how many pass, and where what each gives stands. Assumes nothing.
use mathlib.Core.Path.{◌≡◌, refl, sym, ap, ap₂, ◌∙◌}
use mathlib.Core.Logic.{◌⊎◌, inl, inr, ⊎_elim}
use mathlib.Core.Bool.{Bool, true, false, cond, ◌||◌, or-true, false≢true}
use mathlib.Core.List.{List, [], ◌++◌, append-nil}
use Prim.Native.Nat.{ℕ, zero, suc, ◌+◌, ◌-◌, ◌*◌, ◌≤◌, ◌<◌}
use native.Mathlib.Omega.{arith}
use native.Mathlib.Numerals.{add-one}
use native.Mathlib.Nat.{add-mul, one-mul, zero-mul}
use lib.Dec.{eqb}
use lib.ListN.{length, get_or, take, drop, length-append, get_or-append}
use lib.Seq.{get_or-append-add, take_at, drop_at}
use borrow.Author.Tests.{eqb-true, eqb-false}
use Rattle.lists.specs.Numbered.{in_order}
use Rattle.lists.specs.Below.{some_below, number_below, gathered}
use Rattle.lists.proofs.Tests.{way, neither, test_no}
use Rattle.lists.proofs.InOrder.{in_order_split}

module _ (test : ℕ → Bool) where
  -- none below n passes, so this one does not
  pub none_below : (n k : ℕ) → some_below test n ≡ false → k < n → test k ≡ false
  unfolding some_below
  none_below zero k e h = absurd (omega arith)
  none_below (suc n) k e h =
      let t = neither (test n) (some_below test n) e in
      ⊎_elim
      (λ (s : eqb k n ≡ true). ap test (eqb-true k n s) ∙ t.0)
      (λ (s : eqb k n ≡ false). let ne : (k ≡ n → ⊥) = eqb-false k n s in none_below n k t.1 (omega arith))
      (way (eqb k n))

  -- one that passes, and that some does
  pub some_below_lem : (n k : ℕ) → k < n → test k ≡ true → some_below test n ≡ true
  unfolding some_below
  some_below_lem zero k h t = absurd (omega arith)
  some_below_lem (suc n) k h t =
      ⊎_elim
      (λ (s : eqb k n ≡ true). let e : test n ≡ true = ap test (sym (eqb-true k n s)) ∙ t in rw e)
      (λ (s : eqb k n ≡ false).
      let ne : (k ≡ n → ⊥) = eqb-false k n s in rw (some_below_lem n k (omega arith) t) (or-true (test n)))
      (way (eqb k n))

  pub record Passing (n : ℕ) : Type 0 where
    pub which : ℕ
    pub below : which < n
    pub passes : test which ≡ true

  passing_more : (n : ℕ) → (test n ≡ true) ⊎ (test n ≡ false) → (some_below test n ≡ true → Passing n)
      → (test n || some_below test n) ≡ true → Passing (suc n)
  passing_more n (inl t) rest e = record { which = n; below = omega arith; passes = t }
  passing_more n (inr t) rest e = let p = rest (rw t at e) in record { which = p.which; below = omega arith; passes = p.passes }

  pub passing : (n : ℕ) → some_below test n ≡ true → Passing n
  unfolding some_below
  passing zero e = absurd (false≢true e)
  passing (suc n) e = passing_more n (way (test n)) (λ s. passing n s) e

  pub number_zero : number_below test 0 ≡ 0
  unfolding number_below
  number_zero = refl

  pub number_suc : (n : ℕ) → number_below test (n + 1) ≡ number_below test n + cond (test n) 1 0
  unfolding number_below
  number_suc n = rw (add-one n)

  -- further on, the count has only grown
  pub number_more : (n d : ℕ) → number_below test n ≤ number_below test (n + d)
  unfolding number_below
  number_more n zero = let z : n + 0 ≡ n = omega arith in rw z (omega arith)
  number_more n (suc d) = let z : n + suc d ≡ suc (n + d) = omega arith in rw z (omega (arith, number_more n d))

  pub number_mono : (n m : ℕ) → n ≤ m → number_below test n ≤ number_below test m
  number_mono n m h = let z : n + (m - n) ≡ m = omega arith in rw z at (number_more n (m - n))

  pub number_pass : (n : ℕ) → test n ≡ true → number_below test (n + 1) ≡ number_below test n + 1
  number_pass n t = number_suc n ∙ ap (λ (b : Bool). number_below test n + cond b 1 0) t

  -- one that passes has a number below the count of all
  pub number_lt : (x n : ℕ) → x < n → test x ≡ true → number_below test x < number_below test n
  number_lt x n h t = omega (arith, number_mono (x + 1) n (omega arith), number_pass x t)

  -- where none passes from n on, nothing is added
  pub number_skip : (n d : ℕ) → ((k : ℕ) → n ≤ k → k < n + d → test k ≡ false) → number_below test (n + d) ≡ number_below test n
  unfolding number_below
  number_skip n zero h = let z : n + 0 ≡ n = omega arith in rw z
  number_skip n (suc d) h =
      let z : n + suc d ≡ suc (n + d) = omega arith in
      rw (z, h (n + d) (omega arith) (omega arith)) (omega (arith, number_skip n d (λ k a b. h k a (omega arith))))

  module _ (f : ℕ → List ℕ) where
    pub gathered_skip : (n d : ℕ) → ((k : ℕ) → n ≤ k → k < n + d → test k ≡ false) → gathered test f (n + d) ≡ gathered test f n
    unfolding in_order
    gathered_skip n zero h = let z : n + 0 ≡ n = omega arith in rw z
    gathered_skip n (suc d) h =
        let z : n + suc d ≡ suc (n + d) = omega arith in
        rw (z, h (n + d) (omega arith) (omega arith))
        (append-nil (gathered test f (n + d)) ∙ gathered_skip n d (λ k a b. h k a (omega arith)))

    pub gathered_pass : (n : ℕ) → test n ≡ true → gathered test f (n + 1) ≡ gathered test f n ++ f n
    unfolding in_order
    gathered_pass n t = rw (add-one n, t)

    -- where each that passes gives c elements
    module _ (c : ℕ) where
      pub length_gathered : (n : ℕ) → ((x : ℕ) → x < n → test x ≡ true → length (f x) ≡ c)
          → length (gathered test f n) ≡ number_below test n * c
      unfolding in_order number_below
      length_gathered zero h = omega arith
      length_gathered (suc n) h =
          length-append (gathered test f n) (cond (test n) (f n) [])
          ∙ ap₂ (λ (a b : ℕ). a + b) (length_gathered n (λ x l t. h x (omega arith) t)) (own (test n) refl)
          ∙ sym (add-mul (number_below test n) (cond (test n) 1 0) c)
        where
          own : (b : Bool) → test n ≡ b → length (cond b (f n) []) ≡ cond b 1 0 * c
          own true t = h n (omega arith) t ∙ sym (one-mul c)
          own false t = sym (zero-mul c)

      -- what x gives stands at its number
      module _ (x n : ℕ) (l : x < n) (t : test x ≡ true) (each : (x : ℕ) → x < n → test x ≡ true → length (f x) ≡ c) where
        abbrev after : List ℕ
        after = drop (length (gathered test f (x + 1))) (gathered test f n)

        pub gathered_split : gathered test f n ≡ gathered test f x ++ (f x ++ after)
        gathered_split =
            let own : cond (test x) (f x) [] ≡ f x = rw t in
            in_order_split (λ y. cond (test y) (f y) []) (λ y. y) x n l
            ∙ ap (λ (b : List ℕ). gathered test f x ++ (b ++ after)) own

        before : length (gathered test f x) ≡ number_below test x * c
        before = length_gathered x (λ y b p. each y (omega arith) p)

        pub gathered_at : (k : ℕ) → k < c → get_or (gathered test f n) (number_below test x * c + k) 0 ≡ get_or (f x) k 0
        gathered_at k h =
            ap₂ (λ (g : List ℕ) (i : ℕ). get_or g (i + k) 0) gathered_split (sym before)
            ∙ get_or-append-add (gathered test f x) (f x ++ after) k 0
            ∙ get_or-append (f x) after 0 k (omega (arith, each x l t))

        pub gathered_part : take c (drop (number_below test x * c) (gathered test f n)) ≡ f x
        gathered_part =
            ap₂ (λ (g : List ℕ) (i : ℕ). take c (drop i g)) gathered_split (sym before)
            ∙ ap (take c) (drop_at (gathered test f x) (f x ++ after) (length (gathered test f x)) refl)
            ∙ take_at (f x) after c (each x l t)

-- what passes one test passes another, so no more pass it
pub number_fewer : (s t : ℕ → Bool) (n : ℕ) → ((x : ℕ) → s x ≡ true → t x ≡ true) → number_below s n ≤ number_below t n
unfolding number_below
number_fewer s t zero h = omega arith
number_fewer s t (suc n) h = omega (arith, number_fewer s t n h, own (s n) refl)
  where
    own : (b : Bool) → s n ≡ b → cond b 1 0 ≤ cond (t n) 1 0
    own true e = rw (h n e) (omega arith)
    own false e = omega arith

-- of two tests, each is counted
pub number_or : (s t : ℕ → Bool) (n : ℕ) → number_below (λ x. s x || t x) n ≤ number_below s n + number_below t n
unfolding number_below
number_or s t zero = omega arith
number_or s t (suc n) = omega (arith, number_or s t n, own (s n) (t n))
  where
    own : (a b : Bool) → cond (a || b) 1 0 ≤ cond a 1 0 + cond b 1 0
    own true b = omega arith
    own false b = omega arith

-- a test that one number alone passes
module _ (t : ℕ → Bool) (c : ℕ) (only : (x : ℕ) → t x ≡ true → x ≡ c) where
  others : (x : ℕ) → (x ≡ c → ⊥) → t x ≡ false
  others x ne = test_no (t x) (λ p. ne (only x p))

  number_before : (n : ℕ) → n ≤ c → number_below t n ≡ 0
  unfolding number_below
  number_before zero h = refl
  number_before (suc n) h = rw (others n (λ e. omega arith)) (omega (arith, number_before n (omega arith)))

  pub number_once : (n : ℕ) → number_below t n ≤ 1
  unfolding number_below
  number_once zero = omega arith
  number_once (suc n) =
      ⊎_elim
      (λ (s : eqb n c ≡ true). omega (arith, number_before n (omega (arith, eqb-true n c s)), own (t n)))
      (λ (s : eqb n c ≡ false). rw (others n (eqb-false n c s)) (omega (arith, number_once n)))
      (way (eqb n c))
    where
      own : (b : Bool) → cond b 1 0 ≤ 1
      own true = omega arith
      own false = omega arith
