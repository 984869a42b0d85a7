-- What a packed block that is in its store answers, by the rank that the code finds. Assumes nothing.
use mathlib.Core.Path.{◌≡◌}
use mathlib.Core.List.{List}
use Prim.Native.Nat.{ℕ, ◌+◌, ◌-◌, ◌*◌, ◌≤◌, ◌<◌}
use native.Mathlib.Omega.{arith}
use lib.ListN.{length, get_or}
use borrow.Author.Tests.{le-leb, lt-leb, lt-ltb}
use Rattle.refusals.specs.Refusals.{not_in_order, lost}
use Rattle.segment_rules.specs.Packed.{codewords, most_kept, packed_size}
use Rattle.segment_rules.specs.Lookup.{entry_read, rank_read, packed_read}

-- n is the rank, as the code has it
module _ (packed last : List ℕ) (b a : ℕ) (there : b * packed_size + packed_size ≤ length packed) (n : ℕ) (ranked : n ≡ rank_read packed b a) where
  pub packed_before : n ≡ 0 → packed_read packed last b a ≡ lost not_in_order 2
  unfolding packed_read
  packed_before z = rw (← ranked, le-leb (b * packed_size + packed_size) (length packed) there, z)

  pub packed_past : most_kept < n → packed_read packed last b a ≡ lost not_in_order 2
  unfolding packed_read
  packed_past h =
      rw (← ranked, le-leb (b * packed_size + packed_size) (length packed) there, lt-ltb 0 n (omega arith), lt-leb n most_kept h)

  pub packed_within : (entry : ℕ) → (n ≡ 0 → ⊥) → n ≤ most_kept → entry ≡ get_or packed (b * packed_size + (codewords + (n - 1))) 0
      → packed_read packed last b a ≡ entry_read last entry a 3
  unfolding packed_read
  packed_within entry f h e =
      rw (← ranked, le-leb (b * packed_size + packed_size) (length packed) there, lt-ltb 0 n (omega arith), le-leb n most_kept h, e)
