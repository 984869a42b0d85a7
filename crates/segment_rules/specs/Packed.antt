-- Defines the bitmap of a segment's entries, its codewords and its packed block: RULES, "Segment tables". Assumes nothing.
use Rattle.std.specs.Prelude.{Bool, not, ◌||◌, List, [], ◌∷◌, ◌++◌, ℕ, ◌+◌, ◌-◌, ◌*◌, eqb, leb, get_or, replicate}
use Rattle.lists.specs.Below.{number_below, gathered}
use Rattle.lists.specs.Numbered.{list_of}
use Rattle.bits.specs.Bits.{value}

-- a segment, a plain block and a last block have so many entries
abbrev pub block_size : ℕ
block_size = 256

-- "thirty-two codewords", of eight entries each, "and 64 entries"
abbrev pub codewords : ℕ
codewords = 32

abbrev pub most_kept : ℕ
most_kept = 64

abbrev pub packed_size : ℕ
packed_size = 96

-- "Bit i of a segment's bitmap is 1 if i is 0 or entry i differs from entry i-1"
unfoldable pub is_one : List ℕ → ℕ → Bool
is_one entries i = eqb i 0 || not (eqb (get_or entries i 0) (get_or entries (i - 1) 0))

-- the ones before entry i
abbrev pub ones_below : List ℕ → ℕ → ℕ
ones_below entries i = number_below (is_one entries) i

-- "eight bitmap bits, lowest entry highest": those of codeword c, as a number
abbrev pub eight_bits : List ℕ → ℕ → ℕ
eight_bits entries c = value (list_of (is_one entries) 8 (c * 8))

-- "each with its base (16 bits: eight bitmap bits .., then the ones before it)"
abbrev pub codeword : List ℕ → ℕ → ℕ
codeword entries c = eight_bits entries c * 256 + ones_below entries (c * 8)

-- the entries that have a one, of the first i
abbrev pub kept : List ℕ → ℕ → List ℕ
kept entries i = gathered (is_one entries) (λ j. get_or entries j 0 ∷ []) i

-- "With at most 64 ones the segment is packed"
abbrev pub is_packed : List ℕ → Bool
is_packed entries = leb (ones_below entries block_size) most_kept

-- "64 entries, unused ones 0"
abbrev pub packed_entries : List ℕ → List ℕ
packed_entries entries = kept entries block_size ++ replicate (most_kept - ones_below entries block_size) 0

-- "thirty-two codewords .. and 64 entries"
unfoldable pub packed_block : List ℕ → List ℕ
packed_block entries = list_of (codeword entries) codewords 0 ++ packed_entries entries
