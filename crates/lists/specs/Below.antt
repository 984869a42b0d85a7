-- Defines tests of the numbers below n: whether one of them passes, how many do, and what those that pass give, one after the other.
-- Assumes nothing.
use Rattle.std.specs.Prelude.{Bool, false, cond, ◌||◌, List, [], ℕ, zero, suc, ◌+◌}
use Rattle.lists.specs.Numbered.{in_order}

-- some number below n passes
unfoldable pub some_below : (ℕ → Bool) → ℕ → Bool
some_below test zero = false
some_below test (suc n) = test n || some_below test n

-- the number of those below n that pass; where those that pass are numbered from 0, it is also n's own number
unfoldable pub number_below : (ℕ → Bool) → ℕ → ℕ
number_below test zero = 0
number_below test (suc n) = number_below test n + cond (test n) 1 0

-- what those below n that pass give
abbrev pub gathered : (ℕ → Bool) → (ℕ → List ℕ) → ℕ → List ℕ
gathered test f n = in_order (λ x. cond (test x) (f x) []) (λ x. x) n
