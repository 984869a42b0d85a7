-- Defines bit strings and the bits of a number: RULES, "Addresses and prefixes". Assumes nothing.
use Rattle.std.specs.Prelude.{Bool, true, false, ◌&&◌, List, [], ◌∷◌, ℕ, zero, suc, ◌+◌, ◌-◌, ◌*◌, ◌/◌, ◌%◌, ◌^◌, eqb, length, take}
use Rattle.std.specs.Bool.{beq}

-- "Bit 0 is the most significant": it stands first
abbrev pub Bits : Type 0
Bits = List Bool

abbrev pub bit : Bool → ℕ
bit false = 0
bit true = 1

-- the number that bits write
abbrev pub value : Bits → ℕ
value [] = 0
value (b ∷ s) = bit b * 2 ^ length s + value s

-- the last k bits of a number; all of them where it is an address of k bits
unfoldable pub bits : ℕ → ℕ → Bits
bits zero x = []
bits (suc k) x = eqb (x / 2 ^ k % 2) 1 ∷ bits k x

-- the bits of a prefix of w-bit addresses
abbrev pub prefix_bits : ℕ → ℕ → ℕ → Bits
prefix_bits w value len = take len (bits w value)

abbrev pub same : Bits → Bits → Bool
same [] [] = true
same [] (b ∷ q) = false
same (a ∷ s) [] = false
same (a ∷ s) (b ∷ q) = beq a b && same s q

-- a begins with s
abbrev pub begins : Bits → Bits → Bool
begins [] a = true
begins (b ∷ s) [] = false
begins (b ∷ s) (c ∷ a) = beq b c && begins s a

-- the bit of a number that has k bits after it
abbrev pub bit_before : ℕ → ℕ → Bool
bit_before x k = eqb (x / 2 ^ k % 2) 1

-- "Bits are numbered from 0, the most significant": bit i of an address of w bits
abbrev pub bit_number : ℕ → ℕ → ℕ → Bool
bit_number w x i = bit_before x (w - 1 - i)
