-- Defines what the elements of a list give, one after the other, and how much of it the first of them give. Assumes nothing.
use Rattle.std.specs.Prelude.{List, [], ◌∷◌, ◌++◌, ℕ, zero, suc, ◌+◌, length}

module _ {A B : Type 0} where
  abbrev pub flat : (A → List B) → List A → List B
  flat f [] = []
  flat f (x ∷ xs) = f x ++ flat f xs

  -- how many f gives for the first i elements
  abbrev pub upto : (A → List B) → List A → ℕ → ℕ
  upto f [] i = 0
  upto f (x ∷ xs) zero = 0
  upto f (x ∷ xs) (suc i) = length (f x) + upto f xs i
