-- Laws of the list of elements by their numbers: one more at its end, element j, what is in it, and agreement. Assumes nothing.
use mathlib.Core.Path.{◌≡◌, refl, ap, ap₂, ◌∙◌}
use mathlib.Core.Logic.{◌⊎◌, inl, inr}
use mathlib.Core.List.Memᴰ
use mathlib.Core.List.{List, [], ◌∷◌, ◌++◌, map, Memᴰ}
use Prim.Native.Nat.{ℕ, zero, suc, ◌+◌, ◌≤◌, ◌<◌}
use native.Mathlib.Omega.{arith}
use native.Mathlib.Nat.{zero-add}
use lib.ListN.{length, get_or, replicate}
use Rattle.lists.specs.Numbered.{list_of}

module _ {X : Type 0} where
  pub list_of_snoc : (R : ℕ → X) (k i : ℕ) → list_of R (suc k) i ≡ list_of R k i ++ (R (i + k) ∷ [])
  unfolding list_of
  list_of_snoc R zero i = let e : i + 0 ≡ i = omega arith in rw e
  list_of_snoc R (suc k) i =
      let e : i + 1 + k ≡ i + suc k = omega arith in
      ap (λ (xs : List X). R i ∷ xs) (list_of_snoc R k (i + 1) ∙ ap (λ (j : ℕ). list_of R k (i + 1) ++ (R j ∷ [])) e)

  pub list_of_append : (R : ℕ → X) (k m i : ℕ) → list_of R (k + m) i ≡ list_of R k i ++ list_of R m (i + k)
  unfolding list_of
  list_of_append R zero m i = let e : i + 0 ≡ i = omega arith in rw (zero-add m, e)
  list_of_append R (suc k) m i =
      let s : suc k + m ≡ suc (k + m) = omega arith in
      let e : i + 1 + k ≡ i + suc k = omega arith in
      rw s (ap (λ (xs : List X). R i ∷ xs) (list_of_append R k m (i + 1) ∙ ap (λ (j : ℕ). list_of R k (i + 1) ++ list_of R m j) e))

  -- elements that are all one
  pub list_of_one : (R : ℕ → X) (x : X) (k i : ℕ) → ((j : ℕ) → i ≤ j → j < i + k → R j ≡ x) → list_of R k i ≡ replicate k x
  unfolding list_of
  list_of_one R x zero i e = refl
  list_of_one R x (suc k) i e =
      ap₂ (λ (y : X) (ys : List X). y ∷ ys) (e i (omega arith) (omega arith))
      (list_of_one R x k (i + 1) (λ j u v. e j (omega arith) (omega arith)))

  pub length_list_of : (R : ℕ → X) (k i : ℕ) → length (list_of R k i) ≡ k
  unfolding list_of
  length_list_of R zero i = refl
  length_list_of R (suc k) i = ap suc (length_list_of R k (i + 1))

  pub map_list_of : {Y : Type 0} (f : X → Y) (R : ℕ → X) (k i : ℕ) → map f (list_of R k i) ≡ list_of (λ j. f (R j)) k i
  unfolding list_of
  map_list_of f R zero i = refl
  map_list_of {Y} f R (suc k) i = ap (λ (ys : List Y). f (R i) ∷ ys) (map_list_of f R k (i + 1))

  pub get_d_list_of : (R : ℕ → X) (k i j : ℕ) (d : X) → j < k → get_or (list_of R k i) j d ≡ R (i + j)
  unfolding list_of
  get_d_list_of R zero i j d h = absurd (omega arith)
  get_d_list_of R (suc k) i zero d h = ap R (omega arith)
  get_d_list_of R (suc k) i (suc j) d h = get_d_list_of R k (i + 1) j d (omega arith) ∙ ap R (omega arith)

  -- elements that agree
  pub list_of_same : (R Q : ℕ → X) (k i : ℕ) → ((j : ℕ) → i ≤ j → j < i + k → R j ≡ Q j) → list_of R k i ≡ list_of Q k i
  unfolding list_of
  list_of_same R Q zero i e = refl
  list_of_same R Q (suc k) i e =
      ap₂ (λ (x : X) (xs : List X). x ∷ xs) (e i (omega arith) (omega arith))
      (list_of_same R Q k (i + 1) (λ j u v. e j (omega arith) (omega arith)))

  -- x is one of k elements from number i on
  pub record Among (R : ℕ → X) (k i : ℕ) (x : X) : Type 0 where
    pub at : ℕ
    pub from : i ≤ at
    pub below : at < i + k
    pub is : x ≡ R at

  among_more : (R : ℕ → X) (k i : ℕ) (x : X) → (Memᴰ x (list_of R k (i + 1)) → Among R k (i + 1) x)
      → (x ≡ R i) ⊎ Memᴰ x (list_of R k (i + 1)) → Among R (suc k) i x
  among_more R k i x rest (inl e) = record { at = i; from = omega arith; below = omega arith; is = e }
  among_more R k i x rest (inr m) =
      let a = rest m in record { at = a.at; from = omega arith; below = omega arith; is = a.is }

  pub mem_list_of : (R : ℕ → X) (k i : ℕ) (x : X) → Memᴰ x (list_of R k i) → Among R k i x
  unfolding list_of
  mem_list_of R zero i x m = absurd (Memᴰ.not-nil m)
  mem_list_of R (suc k) i x m = among_more R k i x (λ m'. mem_list_of R k (i + 1) x m') (Memᴰ.cases_cons m)
