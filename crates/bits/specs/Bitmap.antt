-- Defines the ones and zeros before a slot of a bitmap of n slots: RULES, "Lookup in an image". Assumes nothing.
use Rattle.std.specs.Prelude.{ℕ, zero, suc, ◌+◌, ◌-◌, ◌/◌, ◌%◌, ◌^◌, eqb}
use Rattle.std.specs.Int.Count.{ones}
use Rattle.bits.specs.Bits.{bit}

-- "In the bitmap slot 0 is the highest": the bitmap's part before slot j
abbrev pub before : ℕ → ℕ → ℕ → ℕ
before n bitmap j = bitmap / 2 ^ (n - j)

-- "1 means leaf": slot j's own bit
abbrev pub slot_bit : ℕ → ℕ → ℕ → ℕ
slot_bit n bitmap j = bitmap / 2 ^ (n - 1 - j) % 2

-- "the number of ones in the slots before j"
abbrev pub ones_before : ℕ → ℕ → ℕ → ℕ
ones_before n bitmap j = ones (before n bitmap j)

-- "the number of zeros before j"
abbrev pub zeros_before : ℕ → ℕ → ℕ → ℕ
zeros_before n bitmap j = j - ones_before n bitmap j

-- how many of the slots 0 .. j-1 have the bit b, slot by slot
abbrev pub slots_with : ℕ → ℕ → ℕ → ℕ → ℕ
slots_with n bitmap b zero = 0
slots_with n bitmap b (suc j) = slots_with n bitmap b j + bit (eqb (slot_bit n bitmap j) b)
