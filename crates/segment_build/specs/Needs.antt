-- For the proofs: what the inner functions of the build ask of each other and leave. Assumes nothing.
use Rattle.std.specs.Prelude.{◌≡◌, Bool, true, false, cond, ◌&&◌, List, ℕ, ◌+◌, ◌*◌, ◌^◌, ◌≤◌, ◌<◌, leb, ltb, length, get_or, set}
use Rattle.std.proofs.lemmas.List.Edits.{sets}
use Rattle.promise.specs.Over.{over}
use Rattle.lists.specs.Numbered.{list_of}
use Rattle.bits.specs.Prefix.{head}
use Rattle.routes.specs.Routes.{ValidList}
use Rattle.routes.specs.Scan.{scan_of}
use Rattle.routes.specs.declared.Route.{Route}
use Rattle.lists.specs.Below.{number_below, gathered}
use Rattle.segment_rules.specs.Blocks.{port_at}
use Rattle.segment_rules.specs.Packed.{block_size, packed_size, is_packed, packed_block}
use Rattle.segment_rules.specs.Tables.{pointer, plain_pointer, first_size, has_last, has_segment, segment, has_packed, has_plain, segment_pointer, first_table, packed_store, plain_store}
use Rattle.segment_rules.specs.Build.{Stores}
use Rattle.segment_ports.specs.RunSearch.{port_from}
use Rattle.segment_ports.specs.Needs.{Resumes}
use Rattle.segment_build.specs.declared.segments.Walk.{Walk}
use Rattle.segment_build.specs.declared.segments.Segment.{Segment}

-- route r begins with a block of l bits that is `next` or later, and is longer: it is the first of that block's routes to be met
abbrev pub is_new : ℕ → ℕ → Route → ℕ → Bool
is_new w l r next = ltb l r.len && leb next (head w l r.value)

-- the routes before number i that are longer than l bits begin with blocks before `next`, and the others with no block before the last of
-- these
pub record Passed (w : ℕ) (R : ℕ → Route) (n l i next : ℕ) : Type 0 where
  pub behind : (k : ℕ) → k < i → l < (R k).len → head w l (R k).value < next
  pub ahead : (k : ℕ) → i ≤ k → k < n → next ≤ head w l (R k).value + 1

-- entries of blocks by their number: f where the test passes, as far as the blocks before `next` go, and else g
abbrev pub marked : (ℕ → Bool) → (ℕ → ℕ) → (ℕ → ℕ) → ℕ → ℕ → ℕ
marked test f g next x = cond (ltb x next && test x) (f x) (g x)

-- segment x is begun at route i: the routes before it begin with earlier blocks or are no longer than these, and the others with x or later
-- blocks; the last blocks before it are counted, and its entries are ports
pub record Begun (R : ℕ → Route) (n i x lasts : ℕ) (entries : List ℕ) : Type 0 where
  pub valid : ValidList 32 R n
  pub low : x < 2 ^ 16
  pub behind : (k : ℕ) → k < i → 16 < (R k).len → head 32 16 (R k).value < x
  pub ahead : (k : ℕ) → i ≤ k → k < n → x ≤ head 32 16 (R k).value
  pub counted : lasts ≡ number_below (has_last R n) (x * block_size)
  pub ports : entries ≡ list_of (port_at 32 R n 24) block_size (x * block_size)

-- its entries are those of the segment, and the last blocks up to its end are counted
pub record Pointed (R : ℕ → Route) (n x lasts : ℕ) (entries : List ℕ) : Type 0 where
  pub counted : lasts ≡ number_below (has_last R n) ((x + 1) * block_size)
  pub is : entries ≡ segment R n x

-- the list is valid, and the runs tell the port of each address
pub record Ready (R : ℕ → Route) (n : ℕ) (runs : List ℕ) : Type 0 where
  pub valid : ValidList 32 R n
  pub ported : (a : ℕ) → a < 2 ^ 32 → port_from runs 0 a ≡ scan_of 32 R n a

-- the pass has come to route i, and all segments before `next` are counted
pub record Walked (R : ℕ → Route) (n : ℕ) (runs : List ℕ) (i : ℕ) (walk : Walk) : Type 0 where
  pub passed : Passed 32 R n 16 i walk.next
  pub low : walk.next ≤ 2 ^ 16
  pub packed_are : walk.packed ≡ number_below (has_packed R n) walk.next
  pub plain_are : walk.plain ≡ number_below (has_plain R n) walk.next
  pub last_are : walk.last ≡ number_below (has_last R n) (walk.next * block_size)
  pub resumes : Resumes runs 0 walk.run (walk.next * 65536)

-- route i is the first of segment x
pub record Met (R : ℕ → Route) (n : ℕ) (runs : List ℕ) (i x : ℕ) (walk : Walk) : Type 0 where
  pub ready : Ready R n runs
  pub walked : Walked R n runs i walk
  pub listed : i < n
  pub new : is_new 32 16 (R i) walk.next ≡ true
  pub is : x ≡ head 32 16 (R i).value

pub record SegmentMet (R : ℕ → Route) (n : ℕ) (runs : List ℕ) (i x : ℕ) (walk : Walk) (s : Segment) : Type 0 where
  pub x_is : s.x ≡ x
  pub from_is : s.from ≡ i + 1
  pub entries_are : s.entries ≡ segment R n x
  pub packed_is : s.packed ≡ is_packed (segment R n x)
  pub next_is_lem : s.after.next ≡ x + 1
  pub after_is : Walked R n runs (i + 1) s.after

-- the next segment, of which some route from number i on is the first
pub record NextSegment (R : ℕ → Route) (n : ℕ) (runs : List ℕ) (i : ℕ) (walk : Walk) (s : Segment) : Type 0 where
  pub route : ℕ
  pub later : i ≤ route
  pub met : Met R n runs route s.x walk
  pub is : SegmentMet R n runs route s.x walk s

-- all segments are counted
pub record Counted (R : ℕ → Route) (n : ℕ) (walk : Walk) : Type 0 where
  pub packed_are : walk.packed ≡ number_below (has_packed R n) (2 ^ 16)
  pub plain_are : walk.plain ≡ number_below (has_plain R n) (2 ^ 16)
  pub last_are : walk.last ≡ number_below (has_last R n) (2 ^ 24)
  pub few : (walk.packed ≤ n) × (walk.plain ≤ n) × (walk.last ≤ n)

-- a last block is in its place, and where the search of a later address may resume
pub record PutLast (runs : List ℕ) (from y next : ℕ) (last : List ℕ) (number : ℕ) (left : List ℕ) : Type 0 where
  pub written : left ≡ sets last (number * block_size) (list_of (λ b. port_from runs from b) block_size (y * block_size))
  pub resumes : Resumes runs from next ((y + 1) * block_size)

-- room for segment x: its entry of the first table, and its block
pub record SegmentRoom (first packed plain : List ℕ) (x : ℕ) (entries : List ℕ) (tight : Bool) (walk : Walk) : Type 0 where
  pub entry : x < length first
  pub is : tight ≡ is_packed entries
  pub packed_few : walk.packed ≤ 4096
  pub plain_few : walk.plain ≤ 4096
  pub packed_room : tight ≡ true → walk.packed * packed_size + packed_size ≤ length packed
  pub plain_room : tight ≡ false → walk.plain * block_size + block_size ≤ length plain

pub record PutSegment (first packed plain : List ℕ) (x : ℕ) (entries : List ℕ) (tight : Bool) (walk : Walk) (first' packed' plain' : List ℕ) : Type 0 where
  pub first_is : first' ≡ set first x (cond tight (pointer + walk.packed) (plain_pointer + walk.plain))
  pub packed_is : packed' ≡ cond tight (sets packed (walk.packed * packed_size) (packed_block entries)) packed
  pub plain_is : plain' ≡ cond tight plain (sets plain (walk.plain * block_size) (list_of (λ i. get_or entries i 0) block_size 0))

-- room for all segments; the first table has its ports
pub record SegmentsRoom (R : ℕ → Route) (n : ℕ) (runs first packed plain : List ℕ) : Type 0 where
  pub ready : Ready R n runs
  pub first_room : first_size ≤ length first
  pub ports : first ≡ over (list_of (port_at 32 R n 16) first_size 0) first
  pub packed_room : number_below (has_packed R n) (2 ^ 16) * packed_size ≤ length packed
  pub plain_room : number_below (has_plain R n) (2 ^ 16) * block_size ≤ length plain

-- the segments before `next` are stored, and named in the first table
pub record Stored (R : ℕ → Route) (n : ℕ) (first packed plain : List ℕ) (next : ℕ) (first' packed' plain' : List ℕ) : Type 0 where
  pub first_is : first' ≡ over (list_of (marked (has_segment R n) (segment_pointer R n) (port_at 32 R n 16) next) first_size 0) first
  pub packed_is : packed' ≡ over (gathered (has_packed R n) (λ x. packed_block (segment R n x)) next) packed
  pub plain_is : plain' ≡ over (gathered (has_plain R n) (segment R n) next) plain

-- all are
pub record FilledSegments (R : ℕ → Route) (n : ℕ) (first packed plain first' packed' plain' : List ℕ) : Type 0 where
  pub first_is : first' ≡ over (first_table R n) first
  pub packed_is : packed' ≡ over (packed_store R n) packed
  pub plain_is : plain' ≡ over (plain_store R n) plain

-- room for all last blocks
pub record LastRoom (R : ℕ → Route) (n : ℕ) (runs last : List ℕ) : Type 0 where
  pub ready : Ready R n runs
  pub room : number_below (has_last R n) (2 ^ 24) * block_size ≤ length last

-- room for the tables
pub record TablesRoom (R : ℕ → Route) (n : ℕ) (runs : List ℕ) (s : Stores) : Type 0 where
  pub ready : Ready R n runs
  pub first_room : first_size ≤ length s.first
  pub packed_room : number_below (has_packed R n) (2 ^ 16) * packed_size ≤ length s.packed
  pub plain_room : number_below (has_plain R n) (2 ^ 16) * block_size ≤ length s.plain
  pub last_room : number_below (has_last R n) (2 ^ 24) * block_size ≤ length s.last
