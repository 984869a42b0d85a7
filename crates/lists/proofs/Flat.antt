-- Laws of what the elements of a list give, one after the other, and of a fact of each element. Assumes nothing.
use mathlib.Core.Path.{◌≡◌, refl, sym, ap, ◌∙◌}
use mathlib.Core.List.{List, [], ◌∷◌, ◌++◌, append_assoc}
use Prim.Native.Nat.{ℕ, zero, suc, ◌+◌, ◌<◌}
use native.Mathlib.Omega.{arith}
use native.Mathlib.Nat.{add_assoc, zero-add}
use lib.ListN.{length, get_or, length-append, get_or-append}
use lib.Seq.{get_or-append-add}
use Rattle.lists.specs.Numbered.{list_of}
use Rattle.lists.specs.Flat.{flat, upto}

module _ {A B : Type 0} (f : A → List B) where
  pub flat_append : (xs ys : List A) → flat f (xs ++ ys) ≡ flat f xs ++ flat f ys
  flat_append [] ys = refl
  flat_append (x ∷ xs) ys = ap (λ (l : List B). f x ++ l) (flat_append xs ys) ∙ sym (append_assoc (f x) (flat f xs) (flat f ys))

  -- number m of what element i gives stands after all that the elements before i give
  pub flat_at : (xs : List A) (i m : ℕ) (d : A) (e : B) → i < length xs → m < length (f (get_or xs i d))
      → get_or (flat f xs) (upto f xs i + m) e ≡ get_or (f (get_or xs i d)) m e
  flat_at [] i m d e h k = absurd (omega arith)
  flat_at (x ∷ xs) zero m d e h k = rw (zero-add m) (get_or-append (f x) (flat f xs) e m k)
  flat_at (x ∷ xs) (suc i) m d e h k =
      ap (λ (n : ℕ). get_or (f x ++ flat f xs) n e) (add_assoc (length (f x)) (upto f xs i) m)
      ∙ get_or-append-add (f x) (flat f xs) (upto f xs i + m) e
      ∙ flat_at xs i m d e (omega arith) k

  pub flat_lt : (xs : List A) (i m : ℕ) (d : A) → i < length xs → m < length (f (get_or xs i d)) → upto f xs i + m < length (flat f xs)
  flat_lt [] i m d h k = absurd (omega arith)
  flat_lt (x ∷ xs) zero m d h k = rw (length-append (f x) (flat f xs)) (omega arith)
  flat_lt (x ∷ xs) (suc i) m d h k =
      rw (length-append (f x) (flat f xs)) (omega (arith, flat_lt xs i m d (omega arith) k))

  pub upto_suc : (xs : List A) (i : ℕ) (d : A) → i < length xs → upto f xs (suc i) ≡ upto f xs i + length (f (get_or xs i d))
  upto_suc [] i d h = absurd (omega arith)
  upto_suc (x ∷ []) zero d h = omega arith
  upto_suc (x ∷ y ∷ xs) zero d h = omega arith
  upto_suc (x ∷ xs) (suc i) d h = omega (arith, upto_suc xs i d (omega arith))

  pub upto_append : (xs ys : List A) (i : ℕ) → upto f (xs ++ ys) (length xs + i) ≡ length (flat f xs) + upto f ys i
  upto_append [] ys i = ap (upto f ys) (zero-add i) ∙ sym (zero-add (upto f ys i))
  upto_append (x ∷ xs) ys i =
      let s : suc (length xs) + i ≡ suc (length xs + i) = omega arith in
      ap (upto f (x ∷ xs ++ ys)) s ∙ omega (arith, upto_append xs ys i, length-append (f x) (flat f xs))

-- a fact of each element
module _ {A : Type 0} (P : A → Type 0) where
  abbrev pub All : List A → Type 0
  All [] = Unit {0}
  All (x ∷ xs) = P x × All xs

  pub all_append : (xs ys : List A) → All xs → All ys → All (xs ++ ys)
  all_append [] ys h k = k
  all_append (x ∷ xs) ys h k = (h.0, all_append xs ys h.1 k)

  pub all_at : (xs : List A) (i : ℕ) (d : A) → i < length xs → All xs → P (get_or xs i d)
  all_at [] i d h k = absurd (omega arith)
  all_at (x ∷ xs) zero d h k = k.0
  all_at (x ∷ xs) (suc i) d h k = all_at xs i d (omega arith) k.1

  pub all_list_of : (R : ℕ → A) (k i : ℕ) → ((j : ℕ) → P (R j)) → All (list_of R k i)
  unfolding list_of
  all_list_of R zero i h = tt
  all_list_of R (suc k) i h = (h i, all_list_of R k (i + 1) h)
