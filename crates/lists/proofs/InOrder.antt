-- What the first elements give, one after the other: one more, its parts, and what stands at each place. Assumes nothing.
use mathlib.Core.Path.{◌≡◌, refl, sym, ap, ap₂, ◌∙◌}
use mathlib.Core.Logic.{⊎_elim}
use mathlib.Core.Bool.{true, false}
use mathlib.Core.List.{List, ◌++◌, append_assoc, append-nil}
use Prim.Native.Nat.{ℕ, zero, suc, ◌+◌, ◌*◌, ◌≤◌, ◌<◌}
use native.Mathlib.Omega.{arith}
use native.Mathlib.Numerals.{add-one}
use native.Mathlib.Nat.{suc-mul}
use lib.Dec.{eqb}
use lib.ListN.{length, take, drop, length-append, length-take, take-append-drop}
use lib.Seq.{take-add, take-length, take-append-le}
use borrow.Author.Tests.{eqb-true, eqb-false}
use Rattle.lists.proofs.Tests.{way}
use Rattle.lists.specs.Numbered.{in_order}

-- a front is no longer than the whole
fits_within : (xs ys : List ℕ) → take (length xs) ys ≡ xs → length xs ≤ length ys
fits_within xs ys e = omega (arith, length-take (length xs) ys, ap length e)

module _ {X : Type 0} (f : X → List ℕ) (R : ℕ → X) where
  pub in_order_more : (i : ℕ) → in_order f R (i + 1) ≡ in_order f R i ++ f (R i)
  unfolding in_order
  in_order_more i = rw (add-one i)

  pub length_in_order_more : (i : ℕ) → length (in_order f R (i + 1)) ≡ length (in_order f R i) + length (f (R i))
  length_in_order_more i = ap length (in_order_more i) ∙ length-append (in_order f R i) (f (R i))

  -- where each gives at most, or exactly, c
  pub length_in_order_le : (c n : ℕ) → ((i : ℕ) → i < n → length (f (R i)) ≤ c) → length (in_order f R n) ≤ n * c
  unfolding in_order
  length_in_order_le c zero h = omega arith
  length_in_order_le c (suc n) h =
      omega (arith, length-append (in_order f R n) (f (R n)), length_in_order_le c n (λ i l. h i (omega arith)), h n (omega arith), suc-mul n c)

  pub length_in_order : (c n : ℕ) → ((i : ℕ) → length (f (R i)) ≡ c) → length (in_order f R n) ≡ n * c
  unfolding in_order
  length_in_order c zero h = omega arith
  length_in_order c (suc n) h =
      omega (arith, length-append (in_order f R n) (f (R n)), length_in_order c n h, h n, suc-mul n c)

  -- the first elements give the front of it
  pub take_in_order : (i n : ℕ) → i ≤ n → take (length (in_order f R i)) (in_order f R n) ≡ in_order f R i
  unfolding in_order
  take_in_order i zero h = let e : i ≡ 0 = omega arith in rw e
  take_in_order i (suc n) h =
      ⊎_elim
      (λ (t : eqb i (suc n) ≡ true). rw (eqb-true i (suc n) t) (take-length (in_order f R (suc n))))
      (λ (t : eqb i (suc n) ≡ false).
      let n_is : (i ≡ suc n → ⊥) = eqb-false i (suc n) t in
      let ih = take_in_order i n (omega arith) in
      take-append-le (length (in_order f R i)) (in_order f R n) (f (R n)) (fits_within (in_order f R i) (in_order f R n) ih) ∙ ih)
      (way (eqb i (suc n)))

  pub length_in_order_mono : (i n : ℕ) → i ≤ n → length (in_order f R i) ≤ length (in_order f R n)
  length_in_order_mono i n h = fits_within (in_order f R i) (in_order f R n) (take_in_order i n h)

  -- what element i gives stands after what those before it give
  pub in_order_split : (i n : ℕ) → i < n
      → in_order f R n ≡ in_order f R i ++ (f (R i) ++ drop (length (in_order f R (i + 1))) (in_order f R n))
  in_order_split i n h =
      let e : take (length (in_order f R (i + 1))) (in_order f R n) ≡ in_order f R (i + 1) = take_in_order (i + 1) n (omega arith) in
      sym (take-append-drop (length (in_order f R (i + 1))) (in_order f R n))
      ∙ ap (λ (l : List ℕ). l ++ drop (length (in_order f R (i + 1))) (in_order f R n)) (e ∙ in_order_more i)
      ∙ append_assoc (in_order f R i) (f (R i)) (drop (length (in_order f R (i + 1))) (in_order f R n))

  -- a list in which element i's part stands at its place, each place after the part before, is made of them in order
  pub in_order_taken : (at : ℕ → ℕ) (xs pre : List ℕ) (n : ℕ) → take (at 0) xs ≡ pre
      → ((i : ℕ) → i < n → at (suc i) ≡ at i + length (f (R i)))
      → ((i : ℕ) → i < n → take (length (f (R i))) (drop (at i) xs) ≡ f (R i))
      → (i : ℕ) → i ≤ n → take (at i) xs ≡ pre ++ in_order f R i
  unfolding in_order
  in_order_taken at xs pre n z next here zero h = z ∙ sym (append-nil pre)
  in_order_taken at xs pre n z next here (suc i) h =
      ap (λ (k : ℕ). take k xs) (next i (omega arith)) ∙ take-add (at i) (length (f (R i))) xs
      ∙ ap₂ (λ (a b : List ℕ). a ++ b) (in_order_taken at xs pre n z next here i (omega arith)) (here i (omega arith))
      ∙ append_assoc pre (in_order f R i) (f (R i))

-- elements that agree give the same
pub in_order_same : {X : Type 0} (f : X → List ℕ) (R Q : ℕ → X) (n : ℕ) → ((i : ℕ) → i < n → R i ≡ Q i) → in_order f R n ≡ in_order f Q n
unfolding in_order
in_order_same {X} f R Q zero h = refl
in_order_same {X} f R Q (suc n) h =
    ap₂ (λ (a : List ℕ) (r : X). a ++ f r) (in_order_same f R Q n (λ i l. h i (omega arith))) (h n (omega arith))
