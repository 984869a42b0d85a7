-- States what this layer is there for: RULES, "Segment tables" and "Lookup in segment tables". Proofs are in proofs/. Assumes nothing.
use Rattle.std.specs.Prelude.{◌≡◌, ◌↔◌, true, false, cond, List, [], ◌++◌, ℕ, ◌+◌, ◌-◌, ◌*◌, ◌/◌, ◌%◌, ◌^◌, ◌≤◌, ◌<◌, length, get_or, take, drop}
use Rattle.promise.specs.Over.{over}
use Rattle.lists.specs.Below.{number_below}
use Rattle.bits.specs.Bits.{bit}
use Rattle.bits.specs.Bitmap.{slot_bit}
use Rattle.bits.specs.Prefix.{head}
use Rattle.refusals.specs.Refusals.{found}
use Rattle.routes.specs.Bounds.{last_port}
use Rattle.routes.specs.Routes.{ValidList}
use Rattle.routes.specs.Scan.{scan_of}
use Rattle.routes.specs.declared.Route.{Route}
use Rattle.segment_rules.specs.Blocks.{longer, port_at}
use Rattle.segment_rules.specs.Packed.{block_size, codewords, packed_size, is_one, ones_below, is_packed, packed_entries, packed_block}
use Rattle.segment_rules.specs.Tables.{pointer, has_last, last_block, has_segment, segment, has_packed, has_plain, first_table, packed_store, plain_store, last_store}
use Rattle.segment_rules.specs.Lookup.{sixteen, rank, lookup_in}
use Rattle.segment_rules.specs.Parts.{entries_of}

-- "Lookup equals the plain scan": on the tables of a valid list, whatever stands after them. The reads are one for the first table; for a
-- segment one more, two if it is packed; and one more for a last block.
abbrev pub reads_of : (ℕ → Route) → ℕ → ℕ → ℕ
reads_of R n a =
    cond (has_segment R n (sixteen a)) (cond (is_packed (segment R n (sixteen a))) 3 2 + cond (has_last R n (a / 256)) 1 0) 1

abbrev pub LookupIsScan : Type 0
LookupIsScan =
    (R : ℕ → Route) (n a : ℕ) (first packed plain last : List ℕ) → ValidList 32 R n → a < 2 ^ 32
    → lookup_in (over (first_table R n) first) (over (packed_store R n) packed) (over (plain_store R n) plain) (over (last_store R n) last) a
    ≡ found (scan_of 32 R n a) (reads_of R n a)

-- "in at most four reads": on any stores
abbrev pub ReadsLe : Type 0
ReadsLe = (first packed plain last : List ℕ) (a : ℕ) → (lookup_in first packed plain last a).reads ≤ 4

-- "a port above 4094" is never answered, and "a block past its store" and "a packed index outside 0..63" never read: on any stores, with so
-- many whole blocks and less than a block after them, which counts for nothing
abbrev pub PortsLe : Type 0
PortsLe = (first packed plain last : List ℕ) (a : ℕ) → (lookup_in first packed plain last a).port ≤ last_port

pub record InBlocks (size : ℕ) (store after : List ℕ) : Type 0 where
  pub blocks : ℕ
  pub whole : length store ≡ blocks * size
  pub part : length after < size

abbrev pub WholeBlocks : Type 0
WholeBlocks =
    (first packed plain last packed' plain' last' : List ℕ) (a : ℕ) → InBlocks packed_size packed packed' → InBlocks block_size plain plain' → InBlocks block_size last last'
    → lookup_in first (packed ++ packed') (plain ++ plain') (last ++ last') a ≡ lookup_in first packed plain last a

-- a route of the list that is longer than l bits and begins with those that write x
pub record LongerRoute (w : ℕ) (R : ℕ → Route) (n l x : ℕ) : Type 0 where
  pub which : ℕ
  pub listed : which < n
  pub long : l < (R which).len
  pub begins : head w l (R which).value ≡ x

-- "exactly where a route longer than the bits used so far begins with them, its top bit is set": in the first table, and in a segment
abbrev pub PointerRule : Type 0
PointerRule =
    (R : ℕ → Route) (n x : ℕ) → ValidList 32 R n → x < 2 ^ 16
    → (pointer ≤ get_or (first_table R n) x 0) ↔ LongerRoute 32 R n 16 x

abbrev pub SegmentPointerRule : Type 0
SegmentPointerRule =
    (R : ℕ → Route) (n x i : ℕ) → ValidList 32 R n → i < block_size
    → (pointer ≤ get_or (segment R n x) i 0) ↔ LongerRoute 32 R n 24 (x * block_size + i)

-- every other entry is the plain scan of each address that begins with its bits
abbrev pub PortRule : Type 0
PortRule =
    (w : ℕ) (R : ℕ → Route) (n l a : ℕ) → ValidList w R n → l ≤ w → longer w R n l (head w l a) ≡ false
    → port_at w R n l (head w l a) ≡ scan_of w R n a

-- bit i of the bitmap, read off the stored codewords
abbrev pub BitRule : Type 0
BitRule =
    (entries : List ℕ) (i : ℕ) → is_packed entries ≡ true → i < block_size
    → slot_bit 8 (get_or (packed_block entries) (i / 8) 0 / 256) (i % 8) ≡ bit (is_one entries i)

-- the base of a codeword, read off it
abbrev pub BaseRule : Type 0
BaseRule =
    (entries : List ℕ) (c : ℕ) → is_packed entries ≡ true → c < codewords
    → get_or (packed_block entries) c 0 % 256 ≡ ones_below entries (c * 8)

-- packing loses nothing: the entry at the rank that the stored codeword gives entry i, less one, is entry i
abbrev pub PackedRule : Type 0
PackedRule =
    (entries : List ℕ) (i : ℕ) → is_packed entries ≡ true → i < block_size
    → (rank (get_or (packed_block entries) (i / 8) 0) (i % 8) ≡ ones_below entries (i + 1))
    × (get_or (packed_block entries) (codewords + (ones_below entries (i + 1) - 1)) 0 ≡ get_or entries i 0)

-- each block stands at its number, "numbered from 0 in address order"
abbrev pub PackedPlaced : Type 0
PackedPlaced =
    (R : ℕ → Route) (n x : ℕ) → x < 2 ^ 16 → has_packed R n x ≡ true
    → take packed_size (drop (number_below (has_packed R n) x * packed_size) (packed_store R n)) ≡ packed_block (segment R n x)

abbrev pub PlainPlaced : Type 0
PlainPlaced =
    (R : ℕ → Route) (n x : ℕ) → x < 2 ^ 16 → has_plain R n x ≡ true
    → take block_size (drop (number_below (has_plain R n) x * block_size) (plain_store R n)) ≡ segment R n x

abbrev pub LastPlaced : Type 0
LastPlaced =
    (R : ℕ → Route) (n y : ℕ) → y < 2 ^ 24 → has_last R n y ≡ true
    → take block_size (drop (number_below (has_last R n) y * block_size) (last_store R n)) ≡ last_block R n y

-- n routes make at most n blocks of each kind, so that fourteen bits hold a number
abbrev pub NumbersFit : Type 0
NumbersFit =
    (R : ℕ → Route) (n x : ℕ)
    → (number_below (has_packed R n) x + number_below (has_plain R n) x ≤ n) × (number_below (has_last R n) x ≤ n)

-- what the debug call hands back of built tables, for the entry of x: the packed segment's 64 entries, or the plain one's 256, or none
abbrev pub segment_part : (ℕ → Route) → ℕ → ℕ → List ℕ
segment_part R n x = cond (has_packed R n x) (packed_entries (segment R n x)) (cond (has_plain R n x) (segment R n x) [])

abbrev pub EntriesAre : Type 0
EntriesAre =
    (R : ℕ → Route) (n x : ℕ) (packed plain : List ℕ) → ValidList 32 R n → x < 2 ^ 16
    → entries_of (over (packed_store R n) packed) (over (plain_store R n) plain) (get_or (first_table R n) x 0) ≡ segment_part R n x
