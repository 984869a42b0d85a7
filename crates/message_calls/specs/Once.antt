-- Defines lists of different things, by a test of sameness: whether one is among others, those that pass, each once. Assumes nothing.
use Rattle.std.specs.Prelude.{◌≡◌, Bool, false, cond, not, ◌||◌, List, [], ◌∷◌}

module _ {A : Type 0} where
  -- x ahead of a list, where a test says so
  abbrev pub ahead : Bool → A → List A → List A
  ahead passes x xs = cond passes (x ∷ xs) xs

  -- those that pass
  unfoldable pub those : (A → Bool) → List A → List A
  those test [] = []
  those test (x ∷ xs) = ahead (test x) x (those test xs)

  module _ (same : A → A → Bool) where
    unfoldable pub among : A → List A → Bool
    among x [] = false
    among x (y ∷ ys) = same x y || among x ys

    -- each once, the first time; what is among `past` not at all
    unfoldable pub once_after : List A → List A → List A
    once_after past [] = []
    once_after past (x ∷ xs) = ahead (not (among x past)) x (once_after (x ∷ past) xs)

    -- no two are the same
    unfoldable pub Differ : List A → Type 0
    Differ [] = Unit {0}
    Differ (x ∷ xs) = (among x xs ≡ false) × Differ xs
