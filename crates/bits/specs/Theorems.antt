-- States what this layer is there for: RULES, "Addresses and prefixes", "Lookup in an image". Proofs are in proofs/. Assumes nothing.
use Rattle.std.specs.Prelude.{◌≡◌, true, false, ◌||◌, ◌⊎◌, ◌↔◌, ℕ, ◌+◌, ◌^◌, ◌<◌, ◌≤◌}
use Rattle.bits.specs.Bits.{bits, prefix_bits, begins, bit_number}
use Rattle.bits.specs.Prefix.{Valid, clear, matches, first, last, within, middle, precedes}
use Rattle.bits.specs.Bitmap.{ones_before, zeros_before, slots_with}

-- "Every bit of the value whose number is the length or more is 0."
abbrev pub ClearMeans : Type 0
ClearMeans = (w v l : ℕ) → (clear w v l ≡ true) ↔ ((i : ℕ) → l ≤ i → i < w → bit_number w v i ≡ false)

-- a prefix matches exactly the addresses from its first to its last
abbrev pub MatchesWithin : Type 0
MatchesWithin = (w v l a : ℕ) → matches w v l a ≡ within w v l a

-- "their first (length) bits agree": the address's bits begin with the prefix's
abbrev pub MatchesBegins : Type 0
MatchesBegins =
    (w v l a : ℕ) → l ≤ w → v < 2 ^ w → a < 2 ^ w → matches w v l a ≡ begins (prefix_bits w v l) (bits w a)

-- a valid prefix begins with its value, and ends within the space
abbrev pub EndsOfValid : Type 0
EndsOfValid = (w v l : ℕ) → Valid w v l → (first w v l ≡ v) × (last w v l < 2 ^ w)

-- "The prefix of length 0 is the whole address space."
abbrev pub WholeMatches : Type 0
WholeMatches = (w a : ℕ) → a < 2 ^ w → matches w 0 0 a ≡ true

-- the longer of two prefixes lies within the shorter, or they have no address in common
abbrev pub NestOrApart : Type 0
NestOrApart =
    (w v l v' l' : ℕ) → l ≤ l' → l' ≤ w
    → ((a : ℕ) → matches w v' l' a ≡ true → matches w v l a ≡ true)
    ⊎ ((a : ℕ) → matches w v' l' a ≡ true → matches w v l a ≡ false)

-- the halves are valid, and share out the prefix's addresses
pub record Halved (w v l : ℕ) : Type 0 where
  pub left_valid : Valid w (first w v l) (l + 1)
  pub right_valid : Valid w (middle w v l) (l + 1)
  pub both : (a : ℕ) → matches w v l a ≡ (matches w (first w v l) (l + 1) a || matches w (middle w v l) (l + 1) a)
  pub apart : (a : ℕ) → matches w (first w v l) (l + 1) a ≡ true → matches w (middle w v l) (l + 1) a ≡ false

abbrev pub Halves : Type 0
Halves = (w v l : ℕ) → l < w → v < 2 ^ w → Halved w v l

-- "one prefix is above another if its value is larger, or its value is the same and its length is larger"
abbrev pub PrecedesMeans : Type 0
PrecedesMeans = (v l v' l' : ℕ) → (precedes v l v' l' ≡ true) ↔ ((v < v') ⊎ ((v ≡ v') × (l < l')))

-- the order of lists is strict and total
pub record Ordered : Type 0 where
  pub irreflexive : (v l : ℕ) → precedes v l v l ≡ false
  pub transitive :
      (v l v' l' v'' l'' : ℕ) → precedes v l v' l' ≡ true → precedes v' l' v'' l'' ≡ true → precedes v l v'' l'' ≡ true
  pub total :
      (v l v' l' : ℕ)
      → (precedes v l v' l' ≡ true) ⊎ ((precedes v' l' v l ≡ true) ⊎ ((v ≡ v') × (l ≡ l')))

-- "the ones in the slots before j" are the slots before j whose bit is 1
abbrev pub OnesBeforeCounts : Type 0
OnesBeforeCounts = (n bitmap j : ℕ) → j ≤ n → bitmap < 2 ^ n → ones_before n bitmap j ≡ slots_with n bitmap 1 j

-- "the zeros in the slots before j" are the slots before j whose bit is 0
abbrev pub ZerosBeforeCounts : Type 0
ZerosBeforeCounts = (n bitmap j : ℕ) → j ≤ n → bitmap < 2 ^ n → zeros_before n bitmap j ≡ slots_with n bitmap 0 j
