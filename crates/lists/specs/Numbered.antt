-- Defines lists of things that have a number. Assumes nothing.
use Rattle.std.specs.Prelude.{List, [], ◌∷◌, ◌++◌, ℕ, zero, suc, ◌+◌}

-- k elements from number i on
unfoldable pub list_of : {X : Type 0} → (ℕ → X) → ℕ → ℕ → List X
list_of R zero i = []
list_of R (suc k) i = R i ∷ list_of R k (i + 1)

-- what the first n elements give, one after the other
unfoldable pub in_order : {X : Type 0} → (X → List ℕ) → (ℕ → X) → ℕ → List ℕ
in_order f R zero = []
in_order f R (suc i) = in_order f R i ++ f (R i)
