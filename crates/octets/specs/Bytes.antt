-- Defines numbers as bytes, "big-endian": RULES, "The route file". Assumes nothing.
use Rattle.std.specs.Prelude.{List, [], ◌∷◌, ℕ, zero, suc, ◌+◌, ◌*◌, ◌/◌, ◌%◌, ◌^◌, ◌<◌, length, get_or}

-- every one is a byte
abbrev pub Bytes : List ℕ → Type 0
Bytes bs = (i : ℕ) → get_or bs i 0 < 2 ^ 8

-- the number that bytes write
unfoldable pub number : List ℕ → ℕ
number [] = 0
number (b ∷ bs) = b * 2 ^ (8 * length bs) + number bs

-- the last k bytes of a number
unfoldable pub digits : ℕ → ℕ → List ℕ
digits zero x = []
digits (suc k) x = x / 2 ^ (8 * k) % 2 ^ 8 ∷ digits k x
