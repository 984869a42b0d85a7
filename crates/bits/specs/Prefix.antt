-- Defines prefixes of w-bit addresses: RULES, "Addresses and prefixes". A prefix is its value v and its length l. Every definition is
-- total. To span, head, match, ends and halves a length past the width counts as the width, and bits past the length count for
-- nothing; `clear` asks whether there are such bits, and the orders compare values and lengths as they are. Assumes nothing.
use Rattle.std.specs.Prelude.{◌≡◌, Bool, ◌&&◌, ◌||◌, ℕ, ◌+◌, ◌-◌, ◌*◌, ◌/◌, ◌%◌, ◌^◌, ◌<◌, ◌≤◌, eqb, leb, ltb}

-- how many addresses share the first l bits
abbrev pub span : ℕ → ℕ → ℕ
span w l = 2 ^ (w - l)

-- the first l bits of an address, as a number
abbrev pub head : ℕ → ℕ → ℕ → ℕ
head w l a = a / span w l

-- "the bits of the value from the length on are zero"
abbrev pub clear : ℕ → ℕ → ℕ → Bool
clear w v l = eqb (v % span w l) 0

-- "A prefix is a value and a length 0..w; the bits of the value from the length on are zero."
pub record Valid (w v l : ℕ) : Type 0 where
  pub fits : v < 2 ^ w
  pub short : l ≤ w
  pub zeros : v % span w l ≡ 0

-- "It matches an address if their first (length) bits agree."
abbrev pub matches : ℕ → ℕ → ℕ → ℕ → Bool
matches w v l a = eqb (head w l a) (head w l v)

-- "A prefix has a first and a last address": the bits past its length all zero, and all one
abbrev pub first : ℕ → ℕ → ℕ → ℕ
first w v l = head w l v * span w l

abbrev pub last : ℕ → ℕ → ℕ → ℕ
last w v l = first w v l + (span w l - 1)

-- from the first address to the last
abbrev pub within : ℕ → ℕ → ℕ → ℕ → Bool
within w v l a = leb (first w v l) a && leb a (last w v l)

-- "and, below w bits, a left and a right half": both are one bit longer; the left one begins where the prefix does
abbrev pub middle : ℕ → ℕ → ℕ → ℕ
middle w v l = first w v l + span w (l + 1)

-- "strictly ascending by value, then by length"
abbrev pub precedes : ℕ → ℕ → ℕ → ℕ → Bool
precedes v l v' l' = ltb v v' || (eqb v v' && ltb l l')

-- the prefixes (v, l) and (v', l') are one
abbrev pub same_prefix : ℕ → ℕ → ℕ → ℕ → Bool
same_prefix v l v' l' = eqb l l' && eqb v v'

-- (v, l) goes before (v', l'): it is longer, or as long and of smaller value
abbrev pub ahead_of : ℕ → ℕ → ℕ → ℕ → Bool
ahead_of v l v' l' = ltb l' l || (eqb l' l && ltb v v')
