-- Defines a segment's codewords by value, the rank that they give an entry, and what packing leaves in a block: RULES, "Segment tables".
-- What the packed block is, segment_rules defines. Assumes nothing.
use Rattle.std.specs.Prelude.{cond, ◌&&◌, List, ℕ, ◌+◌, ◌*◌, ◌%◌, eqb, length, get_or}
use Rattle.lists.specs.Numbered.{list_of}
use Rattle.bits.specs.Bitmap.{ones_before}
use Rattle.segment_rules.specs.Packed.{block_size, codewords, packed_size, ones_below, eight_bits, is_packed, packed_block}
use Rattle.segment_pack.specs.declared.Code.{Code}

abbrev pub code : ℕ → ℕ → Code
code bits base = record { bits = bits; base = base }

-- the codeword of entries c * 8 to c * 8 + 7, with its base
abbrev pub code_of : List ℕ → ℕ → Code
code_of entries c = code (eight_bits entries c) (ones_below entries (c * 8))

-- "thirty-two codewords, each with its base", of a segment's entries
unfoldable pub codes_of : List ℕ → List Code
codes_of entries = list_of (code_of entries) codewords 0

-- "base plus the ones through the entry's bit": of entry i, by its codeword
abbrev pub rank_of : Code → ℕ → ℕ
rank_of c i = c.base + ones_before 8 c.bits (i % 8 + 1)

-- a block of 96 words gets the packed block of the entries, if they have one; any other memory is left as it is
unfoldable pub pack_into : List ℕ → List ℕ → List ℕ
pack_into entries block = cond (eqb (length block) packed_size && is_packed entries) (packed_block entries) block

-- a block of 256 words gets the entries themselves, one after the other
unfoldable pub copy_into : List ℕ → List ℕ → List ℕ
copy_into entries block = cond (eqb (length block) block_size) (list_of (λ i. get_or entries i 0) block_size 0) block
