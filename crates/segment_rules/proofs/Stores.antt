-- Where the blocks of the segment tables stand, how many there are, and what the entries are. Assumes nothing.
use mathlib.Core.Path.{◌≡◌, ap, ◌∙◌}
use mathlib.Core.Bool.{Bool, true, false, cond, not, ◌&&◌}
use mathlib.Core.List.{List}
use Prim.Native.Nat.{ℕ, zero, suc, ◌+◌, ◌*◌, ◌^◌, ◌≤◌, ◌<◌}
use native.Mathlib.Omega.{arith}
use native.Mathlib.Nat.{mul-le-mul_right, suc-mul}
use lib.ListN.{length, get_or, take, drop, length-append, length-drop, get_or-append}
use lib.Seq.{take-append-le, drop-append-le}
use borrow.Author.Tests.{le-leb}
use Rattle.promise.specs.Over.{over}
use Rattle.lists.specs.Below.{number_below, gathered}
use Rattle.lists.proofs.Tests.{both}
use Rattle.lists.proofs.Numbered.{length_list_of, get_d_list_of}
use Rattle.lists.proofs.Below.{number_lt, length_gathered, gathered_at, gathered_part}
use Rattle.routes.specs.Scan.{scan_of}
use Rattle.routes.specs.declared.Route.{Route}
use Rattle.segment_rules.specs.Blocks.{port_at}
use Rattle.segment_rules.specs.Packed.{block_size, packed_size, is_packed, packed_block}
use Rattle.segment_rules.specs.Tables.{pointer, plain_pointer, first_size, has_last, last_block, segment_entry, has_segment, segment, has_packed, has_plain, segment_pointer, first_entry, first_table, packed_store, plain_store, last_store}
use Rattle.segment_rules.specs.Lookup.{is_block, block_word}
use Rattle.segment_rules.specs.Theorems.{PackedPlaced, PlainPlaced, LastPlaced, NumbersFit}
use Rattle.segment_rules.proofs.Ports.{blocks_le}
use Rattle.segment_rules.proofs.Ranks.{length_packed_block}

-- a block in a store that is gathered from blocks of one size, whatever stands after it
module _ (test : ℕ → Bool) (f : ℕ → List ℕ) (size n : ℕ) (each : (x : ℕ) → x < n → test x ≡ true → length (f x) ≡ size)
    (lent : List ℕ) (x : ℕ) (l : x < n) (t : test x ≡ true) where
  abbrev store : List ℕ
  store = over (gathered test f n) lent

  abbrev number : ℕ
  number = number_below test x

  ends_within : number * size + size ≤ length (gathered test f n)
  ends_within =
      omega (arith, mul-le-mul_right size (number_lt test x n l t), suc-mul number size, length_gathered test f size n each)

  pub block_there : is_block (length store) size number ≡ true
  block_there =
      le-leb (number * size + size) (length store)
      (omega (arith, ends_within, length-append (gathered test f n) (drop (length (gathered test f n)) lent)))

  pub block_word_lem : (k : ℕ) → k < size → block_word store size number k ≡ get_or (f x) k 0
  block_word_lem k h =
      get_or-append (gathered test f n) (drop (length (gathered test f n)) lent) 0 (number * size + k) (omega (arith, ends_within))
      ∙ gathered_at test f size x n l t each k h

  pub block_part : take size (drop (number * size) store) ≡ f x
  block_part =
      ap (take size) (drop-append-le (number * size) (gathered test f n) _ (omega (arith, ends_within)))
      ∙ take-append-le size (drop (number * size) (gathered test f n)) _ (rw (length-drop (number * size) (gathered test f n)) (omega (arith, ends_within)))
      ∙ gathered_part test f size x n l t each

module _ (R : ℕ → Route) (n : ℕ) where
  -- blocks of each kind have one size

  pub length_segment : (x : ℕ) → length (segment R n x) ≡ block_size
  unfolding segment
  length_segment x = length_list_of (segment_entry R n) 256 (x * block_size)

  pub length_last : (y : ℕ) → length (last_block R n y) ≡ block_size
  length_last y = length_list_of (scan_of 32 R n) 256 (y * block_size)

  pub packed_each : (x : ℕ) → x < 2 ^ 16 → has_packed R n x ≡ true → length (packed_block (segment R n x)) ≡ packed_size
  unfolding has_packed
  packed_each x l t = length_packed_block (segment R n x) (both (has_segment R n x) (is_packed (segment R n x)) t).1

  pub plain_each : (x : ℕ) → x < 2 ^ 16 → has_plain R n x ≡ true → length (segment R n x) ≡ block_size
  plain_each x l t = length_segment x

  pub last_each : (y : ℕ) → y < 2 ^ 24 → has_last R n y ≡ true → length (last_block R n y) ≡ block_size
  last_each y l t = length_last y

  -- so the stores are as long as they have blocks
  pub length_packed_store : length (packed_store R n) ≡ number_below (has_packed R n) (2 ^ 16) * packed_size
  unfolding packed_store
  length_packed_store = length_gathered (has_packed R n) (λ x. packed_block (segment R n x)) packed_size (2 ^ 16) packed_each

  pub length_plain_store : length (plain_store R n) ≡ number_below (has_plain R n) (2 ^ 16) * block_size
  unfolding plain_store
  length_plain_store = length_gathered (has_plain R n) (segment R n) block_size (2 ^ 16) plain_each

  pub length_last_store : length (last_store R n) ≡ number_below (has_last R n) (2 ^ 24) * block_size
  unfolding last_store
  length_last_store = length_gathered (has_last R n) (last_block R n) block_size (2 ^ 24) last_each

  -- entries by their number

  pub first_at : (x : ℕ) → x < first_size → get_or (first_table R n) x 0 ≡ first_entry R n x
  unfolding first_table
  first_at x h =
      let z : 0 + x ≡ x = omega arith in get_d_list_of (first_entry R n) first_size 0 x 0 h ∙ ap (first_entry R n) z

  pub length_first : length (first_table R n) ≡ first_size
  unfolding first_table
  length_first = length_list_of (first_entry R n) first_size 0

  pub segment_at : (x i : ℕ) → i < block_size → get_or (segment R n x) i 0 ≡ segment_entry R n (x * block_size + i)
  unfolding segment
  segment_at x i h = get_d_list_of (segment_entry R n) 256 (x * block_size) i 0 h

  pub last_at : (y i : ℕ) → i < block_size → get_or (last_block R n y) i 0 ≡ scan_of 32 R n (y * block_size + i)
  last_at y i h = get_d_list_of (scan_of 32 R n) 256 (y * block_size) i 0 h

  -- a segment is packed or plain, and no other block is

  pub packed_of : (x : ℕ) → has_segment R n x ≡ true → is_packed (segment R n x) ≡ true → has_packed R n x ≡ true
  unfolding has_packed
  packed_of x s p = rw (s, p)

  pub plain_of : (x : ℕ) → has_segment R n x ≡ true → is_packed (segment R n x) ≡ false → (has_packed R n x ≡ false) × (has_plain R n x ≡ true)
  unfolding has_packed has_plain
  plain_of x s p = (rw (s, p), rw (s, p))

  pub neither_of : (x : ℕ) → has_segment R n x ≡ false → (has_packed R n x ≡ false) × (has_plain R n x ≡ false)
  unfolding has_packed has_plain
  neither_of x s = (rw s, rw s)

  -- so an entry of the first table is one of three
  pub first_packed_is : (x : ℕ) → has_segment R n x ≡ true → is_packed (segment R n x) ≡ true
      → first_entry R n x ≡ pointer + number_below (has_packed R n) x
  unfolding first_entry segment_pointer
  first_packed_is x s p = rw (s, p)

  pub first_plain_is : (x : ℕ) → has_segment R n x ≡ true → is_packed (segment R n x) ≡ false
      → first_entry R n x ≡ plain_pointer + number_below (has_plain R n) x
  unfolding first_entry segment_pointer
  first_plain_is x s p = rw (s, p)

  pub first_port_is : (x : ℕ) → has_segment R n x ≡ false → first_entry R n x ≡ port_at 32 R n 16 x
  unfolding first_entry
  first_port_is x s = rw s

  -- how many there are
  segments_shared : (x : ℕ) → number_below (has_packed R n) x + number_below (has_plain R n) x ≡ number_below (has_segment R n) x
  unfolding number_below has_packed has_plain
  segments_shared zero = omega arith
  segments_shared (suc x) = omega (arith, segments_shared x, own (has_segment R n x) (is_packed (segment R n x)))
    where
      own : (a b : Bool) → cond (a && b) 1 0 + cond (a && not b) 1 0 ≡ cond a 1 0
      own true true = omega arith
      own true false = omega arith
      own false b = omega arith

pub numbers_fit : NumbersFit
numbers_fit R n x =
    (omega (arith, segments_shared R n x, blocks_le 32 R n 16 x), blocks_le 32 R n 24 x)

pub packed_placed : PackedPlaced
unfolding packed_store
packed_placed R n x l t = gathered_part (has_packed R n) (λ y. packed_block (segment R n y)) packed_size x (2 ^ 16) l t (packed_each R n)

pub plain_placed : PlainPlaced
unfolding plain_store
plain_placed R n x l t = gathered_part (has_plain R n) (segment R n) block_size x (2 ^ 16) l t (plain_each R n)

pub last_placed : LastPlaced
unfolding last_store
last_placed R n y l t = gathered_part (has_last R n) (last_block R n) block_size y (2 ^ 24) l t (last_each R n)
