-- Defines the segment tables of n routes: RULES, "Segment tables". The line cards' scheme is one for addresses of 32 bits: sixteen, then
-- the third octet, then the fourth. Assumes nothing.
use Rattle.std.specs.Prelude.{Bool, cond, not, ◌&&◌, List, ℕ, ◌+◌, ◌*◌, ◌^◌}
use Rattle.lists.specs.Below.{number_below, gathered}
use Rattle.lists.specs.Numbered.{list_of}
use Rattle.routes.specs.Scan.{scan_of}
use Rattle.routes.specs.declared.Route.{Route}
use Rattle.segment_rules.specs.Blocks.{longer, port_at}
use Rattle.segment_rules.specs.Packed.{block_size, is_packed, packed_block}

-- "its top bit is set and the rest numbers a block"
abbrev pub pointer : ℕ
pointer = 32768

-- "in the first table the next bit then marks a plain segment"
abbrev pub plain_pointer : ℕ
plain_pointer = 49152

-- "65,536 entries by the first sixteen bits"
abbrev pub first_size : ℕ
first_size = 65536

module _ (R : ℕ → Route) (n : ℕ) where
  -- whether there is a last block for the first 24 bits y; its "256 by the fourth" octet
  abbrev pub has_last : ℕ → Bool
  has_last y = longer 32 R n 24 y

  abbrev pub last_block : ℕ → List ℕ
  last_block y = list_of (scan_of 32 R n) block_size (y * block_size)

  -- the entry for the first 24 bits y, in its segment
  unfoldable pub segment_entry : ℕ → ℕ
  segment_entry y = cond (has_last y) (pointer + number_below has_last y) (port_at 32 R n 24 y)

  -- whether there is a segment for the first 16 bits x; its "256 entries by the third octet"
  abbrev pub has_segment : ℕ → Bool
  has_segment x = longer 32 R n 16 x

  unfoldable pub segment : ℕ → List ℕ
  segment x = list_of segment_entry block_size (x * block_size)

  -- "With at most 64 ones the segment is packed ... Otherwise its 256 entries stand in a plain store."
  unfoldable pub has_packed : ℕ → Bool
  has_packed x = has_segment x && is_packed (segment x)

  unfoldable pub has_plain : ℕ → Bool
  has_plain x = has_segment x && not (is_packed (segment x))

  -- "Packed segments, plain ones and last blocks are each numbered from 0 in address order": what names the segment of x
  unfoldable pub segment_pointer : ℕ → ℕ
  segment_pointer x =
      cond (is_packed (segment x)) (pointer + number_below has_packed x) (plain_pointer + number_below has_plain x)

  -- the entry for the first 16 bits x
  unfoldable pub first_entry : ℕ → ℕ
  first_entry x = cond (has_segment x) (segment_pointer x) (port_at 32 R n 16 x)

  -- the four stores
  unfoldable pub first_table : List ℕ
  first_table = list_of first_entry first_size 0

  unfoldable pub packed_store : List ℕ
  packed_store = gathered has_packed (λ x. packed_block (segment x)) (2 ^ 16)

  unfoldable pub plain_store : List ℕ
  plain_store = gathered has_plain segment (2 ^ 16)

  unfoldable pub last_store : List ℕ
  last_store = gathered has_last last_block (2 ^ 24)
