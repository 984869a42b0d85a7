-- Defines the lookup on any stores: RULES, "Lookup in segment tables". Assumes nothing.
use Rattle.std.specs.Prelude.{Bool, cond, ◌&&◌, List, ℕ, ◌+◌, ◌-◌, ◌*◌, ◌/◌, ◌%◌, leb, ltb, length, get_or}
use Rattle.bits.specs.Bitmap.{ones_before}
use Rattle.refusals.specs.Refusals.{not_in_order, found, lost}
use Rattle.refusals.specs.declared.found.Found.{Found}
use Rattle.routes.specs.Bounds.{last_port}
use Rattle.segment_rules.specs.Packed.{block_size, codewords, most_kept, packed_size}
use Rattle.segment_rules.specs.Tables.{pointer, plain_pointer, first_size}

-- the parts of an address: its first sixteen bits, its third octet and its fourth
abbrev pub sixteen : ℕ → ℕ
sixteen a = a / 65536

abbrev pub third : ℕ → ℕ
third a = a / 256 % 256

abbrev pub fourth : ℕ → ℕ
fourth a = a % 256

-- block b is in its store, of so many words, if it is there whole: else it is "a block past its store"
abbrev pub is_block : ℕ → ℕ → ℕ → Bool
is_block words size b = leb (b * size + size) words

-- word k of block b
abbrev pub block_word : List ℕ → ℕ → ℕ → ℕ → ℕ
block_word store size b k = get_or store (b * size + k) 0

-- 11 for "a port above 4094"
abbrev pub port_read : ℕ → ℕ → Found
port_read entry reads = cond (leb entry last_port) (found entry reads) (lost not_in_order reads)

-- the entry of last block b, which has no pointers
unfoldable pub last_read : List ℕ → ℕ → ℕ → ℕ → Found
last_read last b a reads =
    cond (is_block (length last) block_size b) (port_read (block_word last block_size b (fourth a)) (reads + 1)) (lost not_in_order reads)

-- an entry of a segment: a port, or a last block
unfoldable pub entry_read : List ℕ → ℕ → ℕ → ℕ → Found
entry_read last entry a reads = cond (ltb entry pointer) (port_read entry reads) (last_read last (entry - pointer) a reads)

-- "base plus the ones through the entry's bit": entry j of the codeword's eight
abbrev pub rank : ℕ → ℕ → ℕ
rank code j = code % 256 + ones_before 8 (code / 256) (j + 1)

-- "a packed index (base plus the ones through the entry's bit, less 1) outside 0..63"
abbrev pub is_indexed : ℕ → Bool
is_indexed rank = ltb 0 rank && leb rank most_kept

-- the rank by the codeword of the third octet, in packed block b
abbrev pub rank_read : List ℕ → ℕ → ℕ → ℕ
rank_read packed b a = rank (block_word packed packed_size b (third a / 8)) (third a % 8)

unfoldable pub packed_read : List ℕ → List ℕ → ℕ → ℕ → Found
packed_read packed last b a =
    cond (is_block (length packed) packed_size b)
    (cond (is_indexed (rank_read packed b a))
    (entry_read last (block_word packed packed_size b (codewords + (rank_read packed b a - 1))) a 3)
    (lost not_in_order 2))
    (lost not_in_order 1)

unfoldable pub plain_read : List ℕ → List ℕ → ℕ → ℕ → Found
plain_read plain last b a =
    cond (is_block (length plain) block_size b) (entry_read last (block_word plain block_size b (third a)) a 2) (lost not_in_order 1)

-- an entry of the first table: a port, a packed segment, or a plain one
unfoldable pub first_read : List ℕ → List ℕ → List ℕ → ℕ → ℕ → Found
first_read packed plain last entry a =
    cond (ltb entry pointer) (port_read entry 1)
    (cond (ltb entry plain_pointer) (packed_read packed last (entry - pointer) a) (plain_read plain last (entry - plain_pointer) a))

-- "11 in a lookup on a first table under 65,536 entries (no read)"
unfoldable pub lookup_in : List ℕ → List ℕ → List ℕ → List ℕ → ℕ → Found
lookup_in first packed plain last a =
    cond (leb first_size (length first)) (first_read packed plain last (get_or first (sixteen a) 0) a) (lost not_in_order 0)
