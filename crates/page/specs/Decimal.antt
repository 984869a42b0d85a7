-- Defines what it is that bytes write a number in decimal, and an address as four decimal numbers with dots, and states that the page's
-- numbers and addresses are written so: RULES, "Program runs". Assumes nothing.
use Rattle.std.specs.Prelude.{◌≡◌, List, [], ◌∷◌, ◌++◌, ℕ, ◌+◌, ◌-◌, ◌*◌, ◌^◌, ◌≤◌, ◌<◌, length, get_or}
use Rattle.page.specs.Text.{dot, most_digits, numeral, address}

-- the number that digits write, the most significant first, after `before`; the digits '0' to '9' are the bytes 48 to 57
abbrev pub read_digits : ℕ → List ℕ → ℕ
read_digits before [] = before
read_digits before (c ∷ cs) = read_digits (before * 10 + (c - 48)) cs

-- the text writes x in decimal: digits alone, of which the first is '0' only where the text is "0"
pub record Decimal (x : ℕ) (text : List ℕ) : Type 0 where
  pub reads_back : read_digits 0 text ≡ x
  pub not_empty : 0 < length text
  pub digits_alone : (i : ℕ) → i < length text → (48 ≤ get_or text i 0) × (get_or text i 0 ≤ 57)
  pub no_leading_zero : get_or text 0 0 ≡ 48 → (x ≡ 0) × (text ≡ 48 ∷ [])

-- a numeral does so, for every number of ten digits, and so for every number of 32 bits
abbrev pub NumeralIsDecimal : Type 0
NumeralIsDecimal = (x : ℕ) → x < 10 ^ most_digits → Decimal x (numeral x)

abbrev pub WordIsDecimal : Type 0
WordIsDecimal = (x : ℕ) → x < 2 ^ 32 → Decimal x (numeral x)

-- "Addresses are written as four decimal numbers with dots": the bytes of x, the most significant first
pub record FourBytes (x : ℕ) (text : List ℕ) : Type 0 where
  pub first : ℕ
  pub second : ℕ
  pub third : ℕ
  pub fourth : ℕ
  pub bytes : (first < 256) × (second < 256) × (third < 256) × (fourth < 256)
  pub value : x ≡ ((first * 256 + second) * 256 + third) * 256 + fourth
  pub written : text ≡ numeral first ++ dot ++ numeral second ++ dot ++ numeral third ++ dot ++ numeral fourth

abbrev pub AddressIsFourBytes : Type 0
AddressIsFourBytes = (x : ℕ) → x < 2 ^ 32 → FourBytes x (address x)
