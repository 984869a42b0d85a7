-- Defines where the entries of a segment stand, for the debug page: RULES, "The entries of a segment". Assumes nothing.
use Rattle.std.specs.Prelude.{Bool, true, false, cond, ◌&&◌, List, ℕ, ◌+◌, ◌-◌, ◌*◌, leb, ltb, length, take, drop}
use Rattle.segment_rules.specs.declared.Part.{Part}
use Rattle.segment_rules.specs.Packed.{block_size, codewords, most_kept, packed_size}
use Rattle.segment_rules.specs.Tables.{pointer, plain_pointer}
use Rattle.segment_rules.specs.Lookup.{is_block}

abbrev pub part : Bool → ℕ → ℕ → Part
part plain from count = record { plain = plain; from = from; count = count }

abbrev pub no_part : Part
no_part = part false 0 0

-- of packed block b all 64 entries, and not the codewords before them
abbrev pub packed_part : ℕ → ℕ → Part
packed_part packed b = cond (is_block packed packed_size b) (part false (b * packed_size + codewords) most_kept) no_part

-- of plain block b all 256
abbrev pub plain_part : ℕ → ℕ → Part
plain_part plain b = cond (is_block plain block_size b) (part true (b * block_size) block_size) no_part

-- "none if the first-table entry given names no segment in its store": one of 16 bits with its top bit set does
abbrev pub names_segment : ℕ → Bool
names_segment entry = leb pointer entry && ltb entry (pointer + pointer)

-- in stores of so many words
unfoldable pub part_of : ℕ → ℕ → ℕ → Part
part_of packed plain entry =
    cond (names_segment entry)
    (cond (ltb entry plain_pointer) (packed_part packed (entry - pointer)) (plain_part plain (entry - plain_pointer)))
    no_part

-- the words that stand there
abbrev pub part_words : List ℕ → List ℕ → Part → List ℕ
part_words packed plain p = take p.count (drop p.from (cond p.plain plain packed))

-- "hands back the entries of a segment, out of the plain store or the packed one"
unfoldable pub entries_of : List ℕ → List ℕ → ℕ → List ℕ
entries_of packed plain entry = part_words packed plain (part_of (length packed) (length plain) entry)
