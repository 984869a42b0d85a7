-- The lookup on built tables is the plain scan, with its reads; on any stores it reads four words at most; and which entries are pointers.
-- Assumes nothing.
use mathlib.Core.Path.{◌≡◌, refl, ap, ◌∙◌}
use mathlib.Core.Logic.{⊎_elim, ◌↔◌}
use mathlib.Core.Bool.{Bool, true, false, cond, false≢true}
use mathlib.Core.List.{List}
use Prim.Native.Nat.{ℕ, ◌+◌, ◌-◌, ◌*◌, ◌/◌, ◌%◌, ◌^◌, ◌≤◌, ◌<◌}
use native.Mathlib.Omega.{arith}
use lib.Dec.{leb, ltb}
use lib.ListN.{length, get_or, drop, length-append, get_or-append}
use borrow.Author.Tests.{le-leb, lt-ltb, le-ltb}
use Rattle.promise.specs.Over.{over}
use Rattle.lists.specs.Below.{number_below}
use Rattle.lists.proofs.Tests.{way, both}
use Rattle.bits.specs.Prefix.{span}
use Rattle.refusals.specs.Refusals.{not_in_order, found, lost}
use Rattle.refusals.specs.declared.found.Found.{Found}
use Rattle.routes.specs.Bounds.{last_port}
use Rattle.routes.specs.Routes.{ValidList}
use Rattle.routes.specs.Scan.{scan_of}
use Rattle.routes.specs.declared.Route.{Route}
use Rattle.routes.proofs.Scan.{scan_le}
use Rattle.segment_rules.specs.Blocks.{longer, port_at}
use Rattle.segment_rules.specs.Packed.{block_size, codewords, most_kept, packed_size, ones_below, is_packed, packed_block}
use Rattle.segment_rules.specs.Tables.{pointer, plain_pointer, first_size, has_last, last_block, segment_entry, has_segment, segment, has_packed, has_plain, first_entry, first_table, packed_store, plain_store, last_store}
use Rattle.segment_rules.specs.Lookup.{sixteen, third, fourth, is_block, block_word, port_read, last_read, entry_read, rank, rank_read, is_indexed, packed_read, plain_read, first_read, lookup_in}
use Rattle.segment_rules.specs.Theorems.{LookupIsScan, reads_of, ReadsLe, PointerRule, SegmentPointerRule, LongerRoute}
use Rattle.segment_rules.proofs.Lent.{either_le}
use Rattle.segment_rules.proofs.Ports.{port_rule, longer→route, route→longer}
use Rattle.segment_rules.proofs.Ranks.{packed_rule, ones_some, ones_few}
use Rattle.segment_rules.proofs.Stores.{block_there, block_word_lem, packed_each, plain_each, last_each, first_at, length_first, segment_at, last_at, packed_of, plain_of, first_packed_is, first_plain_is, first_port_is, numbers_fit}

module _ (R : ℕ → Route) (n : ℕ) (ok : ValidList 32 R n) where
  -- what the entries are

  -- a port that is read is answered
  port_read_lem : (p reads : ℕ) → p ≤ last_port → port_read p reads ≡ found p reads
  port_read_lem p reads h = rw (le-leb p last_port h)

  abbrev reads_last : ℕ → ℕ
  reads_last y = cond (has_last R n y) 1 0

  module _ (a : ℕ) (fits : a < 2 ^ 32) (last : List ℕ) where
    abbrev lasts : List ℕ
    lasts = over (last_store R n) last

    -- the first 24 bits
    abbrev y : ℕ
    y = a / 256

    entry_pointed : (reads : ℕ) → has_last R n y ≡ true → entry_read lasts (segment_entry R n y) a reads ≡ found (scan_of 32 R n a) (reads + 1)
    unfolding segment_entry entry_read last_read last_store
    entry_pointed reads t =
        let k = number_below (has_last R n) y in
        let z : pointer + k - pointer ≡ k = omega arith in
        let below : y < 2 ^ 24 = omega arith in
        let there = block_there (has_last R n) (last_block R n) block_size (2 ^ 24) (last_each R n) last y below t in
        let word = block_word_lem (has_last R n) (last_block R n) block_size (2 ^ 24) (last_each R n) last y below t (fourth a) (omega arith) in
        let e : y * block_size + fourth a ≡ a = omega arith in
        let port : block_word lasts block_size k (fourth a) ≡ scan_of 32 R n a = word ∙ last_at R n y (fourth a) (omega arith) ∙ ap (scan_of 32 R n) e in
        rw (t, le-ltb (pointer + k) pointer (omega arith), z, there, port) (port_read_lem (scan_of 32 R n a) (reads + 1) (scan_le 32 R n ok a))

    entry_port : (reads : ℕ) → has_last R n y ≡ false → entry_read lasts (segment_entry R n y) a reads ≡ found (scan_of 32 R n a) reads
    unfolding segment_entry entry_read
    entry_port reads t =
        let p : port_at 32 R n 24 y ≡ scan_of 32 R n a = port_rule 32 R n 24 a ok (omega arith) t in
        let low = scan_le 32 R n ok a in
        rw (t, p, lt-ltb (scan_of 32 R n a) pointer (omega arith)) (port_read_lem (scan_of 32 R n a) reads low)

    entry_read_lem : (reads : ℕ) → entry_read lasts (segment_entry R n y) a reads ≡ found (scan_of 32 R n a) (reads + reads_last y)
    entry_read_lem reads =
        ⊎_elim
        (λ (t : has_last R n y ≡ true). rw t (entry_pointed reads t))
        (λ (t : has_last R n y ≡ false). let z : reads + 0 ≡ reads = omega arith in rw (t, z) (entry_port reads t))
        (way (has_last R n y))

    -- the first sixteen bits
    abbrev x : ℕ
    x = sixteen a

    entry_third : segment_entry R n (x * block_size + third a) ≡ segment_entry R n y
    entry_third = let e : x * block_size + third a ≡ y = omega arith in rw e

    packed_read_lem : (packed : List ℕ) → has_packed R n x ≡ true
        → packed_read (over (packed_store R n) packed) lasts (number_below (has_packed R n) x) a ≡ found (scan_of 32 R n a) (3 + reads_last y)
    unfolding packed_read packed_store has_packed
    packed_read_lem packed t =
        let k = number_below (has_packed R n) x in
        let store = over (packed_store R n) packed in
        let is = (both (has_segment R n x) (is_packed (segment R n x)) t).1 in
        let there = block_there (has_packed R n) (λ z. packed_block (segment R n z)) packed_size (2 ^ 16) (packed_each R n) packed x (omega arith) t in
        let word = block_word_lem (has_packed R n) (λ z. packed_block (segment R n z)) packed_size (2 ^ 16) (packed_each R n) packed x (omega arith) t in
        let ones = ones_below (segment R n x) (third a + 1) in
        let rule = packed_rule (segment R n x) (third a) is (omega arith) in
        let ranked : rank_read store k a ≡ ones = ap (λ (c : ℕ). rank c (third a % 8)) (word (third a / 8) (omega arith)) ∙ rule.0 in
        let few = ones_few (segment R n x) (third a) is (omega arith) in
        let some = ones_some (segment R n x) (third a) in
        let own : block_word store packed_size k (codewords + (ones - 1)) ≡ segment_entry R n y =
        word (codewords + (ones - 1)) (omega arith) ∙ rule.1 ∙ segment_at R n x (third a) (omega arith) ∙ entry_third in
        rw (there, ranked, lt-ltb 0 ones some, le-leb ones most_kept few, own) (entry_read_lem 3)

    plain_read_lem : (plain : List ℕ) → has_plain R n x ≡ true
        → plain_read (over (plain_store R n) plain) lasts (number_below (has_plain R n) x) a ≡ found (scan_of 32 R n a) (2 + reads_last y)
    unfolding plain_read plain_store
    plain_read_lem plain t =
        let k = number_below (has_plain R n) x in
        let there = block_there (has_plain R n) (segment R n) block_size (2 ^ 16) (plain_each R n) plain x (omega arith) t in
        let own : block_word (over (plain_store R n) plain) block_size k (third a) ≡ segment_entry R n y =
        block_word_lem (has_plain R n) (segment R n) block_size (2 ^ 16) (plain_each R n) plain x (omega arith) t (third a) (omega arith)
        ∙ segment_at R n x (third a) (omega arith) ∙ entry_third in
        rw (there, own) (entry_read_lem 2)

    module _ (packed plain : List ℕ) where
      abbrev answer : ℕ → Found
      answer entry = first_read (over (packed_store R n) packed) (over (plain_store R n) plain) lasts entry a

      -- the three kinds of entry
      module _ (s : has_segment R n x ≡ true) where
        first_packed : is_packed (segment R n x) ≡ true → answer (first_entry R n x) ≡ found (scan_of 32 R n a) (3 + reads_last y)
        unfolding first_read
        first_packed p =
            let k = number_below (has_packed R n) x in
            let z : pointer + k - pointer ≡ k = omega arith in
            let few : k ≤ 4096 = omega (arith, (numbers_fit R n x).0, ok.few) in
            rw (first_packed_is R n x s p, le-ltb (pointer + k) pointer (omega arith), lt-ltb (pointer + k) plain_pointer (omega arith), z)
            (packed_read_lem packed (packed_of R n x s p))

        first_plain : is_packed (segment R n x) ≡ false → answer (first_entry R n x) ≡ found (scan_of 32 R n a) (2 + reads_last y)
        unfolding first_read
        first_plain p =
            let k = number_below (has_plain R n) x in
            let z : plain_pointer + k - plain_pointer ≡ k = omega arith in
            rw (first_plain_is R n x s p, le-ltb (plain_pointer + k) pointer (omega arith), le-ltb (plain_pointer + k) plain_pointer (omega arith), z)
            (plain_read_lem plain (plain_of R n x s p).1)

      first_port : has_segment R n x ≡ false → answer (first_entry R n x) ≡ found (scan_of 32 R n a) 1
      unfolding first_read
      first_port t =
          let p : port_at 32 R n 16 x ≡ scan_of 32 R n a = port_rule 32 R n 16 a ok (omega arith) t in
          let low = scan_le 32 R n ok a in
          rw (first_port_is R n x t, p, lt-ltb (scan_of 32 R n a) pointer (omega arith)) (port_read_lem (scan_of 32 R n a) 1 low)

      first_read_lem : answer (first_entry R n x) ≡ found (scan_of 32 R n a) (reads_of R n a)
      first_read_lem =
          ⊎_elim
          (λ (s : has_segment R n x ≡ true).
          ⊎_elim
          (λ (p : is_packed (segment R n x) ≡ true). rw (s, p) (first_packed s p))
          (λ (p : is_packed (segment R n x) ≡ false). rw (s, p) (first_plain s p))
          (way (is_packed (segment R n x))))
          (λ (s : has_segment R n x ≡ false). rw s (first_port s))
          (way (has_segment R n x))

pub lookup_is_scan : LookupIsScan
unfolding lookup_in
lookup_is_scan R n a first packed plain last ok fits =
    let table = first_table R n in
    let long : first_size ≤ length (over table first) =
    omega (arith, length_first R n, length-append table (drop (length table) first)) in
    let entry : get_or (over table first) (sixteen a) 0 ≡ first_entry R n (sixteen a) =
    get_or-append table (drop (length table) first) 0 (sixteen a) (omega (arith, length_first R n)) ∙ first_at R n (sixteen a) (omega arith) in
    rw (le-leb first_size (length (over table first)) long, entry) (first_read_lem R n ok a fits last packed plain)

-- on any stores

abbrev either_reads : (b : Bool) (p q : Found) (most : ℕ) → p.reads ≤ most → q.reads ≤ most → (cond b p q).reads ≤ most
either_reads = either_le (λ r. r.reads)

module _ (last : List ℕ) (a : ℕ) where
  port_reads : (entry reads most : ℕ) → reads ≤ most → (port_read entry reads).reads ≤ most
  port_reads entry reads most h = either_reads (leb entry last_port) (found entry reads) (lost not_in_order reads) most h h

  entry_reads : (entry reads : ℕ) → reads ≤ 3 → (entry_read last entry a reads).reads ≤ 4
  unfolding entry_read last_read
  entry_reads entry reads h =
      either_reads (ltb entry pointer) _ _ 4
      (port_reads entry reads 4 (omega arith))
      (either_reads (is_block (length last) block_size (entry - pointer)) _ _ 4
      (port_reads (block_word last block_size (entry - pointer) (fourth a)) (reads + 1) 4 (omega arith)) (omega arith))

  module _ (packed plain : List ℕ) where
    packed_reads : (b : ℕ) → (packed_read packed last b a).reads ≤ 4
    unfolding packed_read
    packed_reads b =
        either_reads (is_block (length packed) packed_size b) _ _ 4
        (either_reads (is_indexed (rank_read packed b a)) _ _ 4 (entry_reads _ 3 (omega arith)) (omega arith)) (omega arith)

    plain_reads : (b : ℕ) → (plain_read plain last b a).reads ≤ 4
    unfolding plain_read
    plain_reads b = either_reads (is_block (length plain) block_size b) _ _ 4 (entry_reads _ 2 (omega arith)) (omega arith)

pub reads_le : ReadsLe
unfolding lookup_in first_read
reads_le first packed plain last a =
    let entry = get_or first (sixteen a) 0 in
    either_reads (leb first_size (length first)) _ _ 4
    (either_reads (ltb entry pointer) _ _ 4 (port_reads last a entry 1 4 (omega arith))
    (either_reads (ltb entry plain_pointer) _ _ 4
    (packed_reads last a packed plain (entry - pointer)) (plain_reads last a packed plain (entry - plain_pointer))))
    (omega arith)

-- which entries are pointers

module _ (R : ℕ → Route) (n : ℕ) (ok : ValidList 32 R n) where
  pub port_low : (l x : ℕ) → port_at 32 R n l x < pointer
  unfolding port_at
  port_low l x = omega (arith, scan_le 32 R n ok (x * span 32 l))

  segment_entry_points : (y : ℕ) (b : Bool) → has_last R n y ≡ b → (pointer ≤ segment_entry R n y) ↔ (b ≡ true)
  unfolding segment_entry
  segment_entry_points y true t = (λ h. refl, λ e. rw t (omega arith))
  segment_entry_points y false t = (λ h. absurd (omega (arith, rw t at h, port_low 24 y)), λ e. absurd (false≢true e))

  first_entry_points : (x : ℕ) (b p : Bool) → has_segment R n x ≡ b → is_packed (segment R n x) ≡ p → (pointer ≤ first_entry R n x) ↔ (b ≡ true)
  first_entry_points x true true t u = (λ h. refl, λ e. rw (first_packed_is R n x t u) (omega arith))
  first_entry_points x true false t u = (λ h. refl, λ e. rw (first_plain_is R n x t u) (omega arith))
  first_entry_points x false p t u =
      (λ h. absurd (omega (arith, rw (first_port_is R n x t) at h, port_low 16 x)), λ e. absurd (false≢true e))

-- an entry that is a pointer exactly where a test passes, which passes exactly where there is a longer route
points_where : (R : ℕ → Route) (n l x entry own : ℕ) → entry ≡ own → (pointer ≤ own) ↔ (longer 32 R n l x ≡ true)
    → (pointer ≤ entry) ↔ LongerRoute 32 R n l x
points_where R n l x entry own e points = (
  λ h. longer→route 32 R n l x (points.0 (omega arith)),
  λ r. let h = points.1 (route→longer 32 R n l x r) in omega arith,
)

pub pointer_rule : PointerRule
pointer_rule R n x ok h =
    points_where R n 16 x (get_or (first_table R n) x 0) (first_entry R n x) (first_at R n x h)
    (first_entry_points R n ok x (has_segment R n x) (is_packed (segment R n x)) refl refl)

pub segment_pointer_rule : SegmentPointerRule
segment_pointer_rule R n x i ok h =
    points_where R n 24 (x * block_size + i) (get_or (segment R n x) i 0) (segment_entry R n (x * block_size + i)) (segment_at R n x i h)
    (segment_entry_points R n ok (x * block_size + i) (has_last R n (x * block_size + i)) refl)
