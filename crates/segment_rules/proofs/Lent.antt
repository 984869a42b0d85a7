-- On any stores: what is answered is a port, and what stands after the last whole block of a store is not read. Assumes nothing.
use mathlib.Core.Path.{◌≡◌, sym, ◌∙◌}
use mathlib.Core.Logic.{⊎_elim}
use mathlib.Core.Bool.{Bool, true, false, cond}
use mathlib.Core.List.{List, ◌++◌}
use Prim.Native.Nat.{ℕ, ◌+◌, ◌-◌, ◌*◌, ◌/◌, ◌≤◌, ◌<◌}
use native.Mathlib.Omega.{arith}
use native.Mathlib.Nat.{mul-le-mul_right, suc-mul}
use lib.Dec.{leb, ltb}
use lib.ListN.{length, get_or, length-append, get_or-append}
use borrow.Author.Tests.{le-leb, lt-leb, leb-true, ltb-true, ltb-false}
use Rattle.lists.proofs.Tests.{way, both}
use Rattle.refusals.specs.Refusals.{not_in_order, lost}
use Rattle.refusals.specs.declared.found.Found.{Found}
use Rattle.routes.specs.Bounds.{last_port}
use Rattle.segment_rules.specs.Packed.{block_size, codewords, most_kept, packed_size}
use Rattle.segment_rules.specs.Tables.{pointer, plain_pointer, first_size}
use Rattle.segment_rules.specs.Lookup.{sixteen, third, fourth, is_block, block_word, port_read, last_read, entry_read, is_indexed, rank_read, packed_read, plain_read, first_read, lookup_in}
use Rattle.segment_rules.specs.Theorems.{PortsLe, InBlocks, WholeBlocks}

-- whichever is answered: a bound of one of its numbers
pub either_le : (f : Found → ℕ) (b : Bool) (p q : Found) (most : ℕ) → f p ≤ most → f q ≤ most → f (cond b p q) ≤ most
either_le f true p q most h k = h
either_le f false p q most h k = k

-- ports

abbrev either_port : (b : Bool) (p q : Found) → p.port ≤ last_port → q.port ≤ last_port → (cond b p q).port ≤ last_port
either_port b p q = either_le (λ r. r.port) b p q last_port

port_le : (entry reads : ℕ) → (port_read entry reads).port ≤ last_port
port_le entry reads =
    ⊎_elim
    (λ (t : leb entry last_port ≡ true). rw t (leb-true entry last_port t))
    (λ (t : leb entry last_port ≡ false). rw t (omega arith))
    (way (leb entry last_port))

module _ (last : List ℕ) (a : ℕ) where
  entry_port_le : (entry reads : ℕ) → (entry_read last entry a reads).port ≤ last_port
  unfolding entry_read last_read
  entry_port_le entry reads =
      either_port (ltb entry pointer) _ _ (port_le entry reads)
      (either_port (is_block (length last) block_size (entry - pointer)) _ (lost not_in_order reads)
      (port_le (block_word last block_size (entry - pointer) (fourth a)) (reads + 1)) (omega arith))

pub ports_le : PortsLe
unfolding lookup_in first_read packed_read plain_read
ports_le first packed plain last a =
    let entry = get_or first (sixteen a) 0 in
    either_port (leb first_size (length first)) _ (lost not_in_order 0)
    (either_port (ltb entry pointer) _ _ (port_le entry 1)
    (either_port (ltb entry plain_pointer) _ _
    (either_port (is_block (length packed) packed_size (entry - pointer)) _ (lost not_in_order 1)
    (either_port (is_indexed (rank_read packed (entry - pointer) a)) _ (lost not_in_order 2) (entry_port_le last a _ _) (omega arith)) (omega arith))
    (either_port (is_block (length plain) block_size (entry - plain_pointer)) _ (lost not_in_order 1) (entry_port_le last a _ _) (omega arith))))
    (omega arith)

-- whole blocks

module _ (size : ℕ) (store after : List ℕ) (lent : InBlocks size store after) (b : ℕ) where
  there_whole : is_block (length (store ++ after)) size b ≡ is_block (length store) size b
  there_whole =
      let n = lent.blocks in
      let long = length-append store after in
      ⊎_elim
      (λ (t : ltb b n ≡ true).
      let h = mul-le-mul_right size (ltb-true b n t) in
      let s = suc-mul b size in
      le-leb (b * size + size) (length (store ++ after)) (omega (arith, long, lent.whole, h, s))
      ∙ sym (le-leb (b * size + size) (length store) (omega (arith, lent.whole, h, s))))
      (λ (t : ltb b n ≡ false).
      let h = mul-le-mul_right size (ltb-false b n t) in
      lt-leb (b * size + size) (length (store ++ after)) (omega (arith, long, lent.whole, lent.part, h))
      ∙ sym (lt-leb (b * size + size) (length store) (omega (arith, lent.whole, lent.part, h))))
      (way (ltb b n))

  word_whole : is_block (length store) size b ≡ true → (k : ℕ) → k < size → block_word (store ++ after) size b k ≡ block_word store size b k
  word_whole t k h = get_or-append store after 0 (b * size + k) (omega (arith, leb-true (b * size + size) (length store) t))

module _ (last after : List ℕ) (lent : InBlocks block_size last after) (a : ℕ) where
  last_whole : (b reads : ℕ) → last_read (last ++ after) b a reads ≡ last_read last b a reads
  unfolding last_read
  last_whole b reads =
      ⊎_elim
      (λ (t : is_block (length last) block_size b ≡ true).
      rw (there_whole block_size last after lent b, t, word_whole block_size last after lent b t (fourth a) (omega arith)))
      (λ (t : is_block (length last) block_size b ≡ false). rw (there_whole block_size last after lent b, t))
      (way (is_block (length last) block_size b))

  entry_whole : (entry reads : ℕ) → entry_read (last ++ after) entry a reads ≡ entry_read last entry a reads
  unfolding entry_read
  entry_whole entry reads = rw (last_whole (entry - pointer) reads)

  packed_whole : (packed after' : List ℕ) → InBlocks packed_size packed after' → (b : ℕ)
      → packed_read (packed ++ after') (last ++ after) b a ≡ packed_read packed last b a
  unfolding packed_read
  packed_whole packed after' here b =
      let there = there_whole packed_size packed after' here b in
      ⊎_elim
      (λ (t : is_block (length packed) packed_size b ≡ true).
      let word = word_whole packed_size packed after' here b t in
      let r = rank_read packed b a in
      ⊎_elim
      (λ (i : is_indexed r ≡ true).
      let few = leb-true r most_kept (both (ltb 0 r) (leb r most_kept) i).1 in
      let some = ltb-true 0 r (both (ltb 0 r) (leb r most_kept) i).0 in
      rw (there, t, word (third a / 8) (omega arith), i, word (codewords + (r - 1)) (omega (arith, few, some)))
      (entry_whole (block_word packed packed_size b (codewords + (r - 1))) _))
      (λ (i : is_indexed r ≡ false). rw (there, t, word (third a / 8) (omega arith), i))
      (way (is_indexed r)))
      (λ (t : is_block (length packed) packed_size b ≡ false). rw (there, t))
      (way (is_block (length packed) packed_size b))

  plain_whole : (plain after' : List ℕ) → InBlocks block_size plain after' → (b : ℕ)
      → plain_read (plain ++ after') (last ++ after) b a ≡ plain_read plain last b a
  unfolding plain_read
  plain_whole plain after' here b =
      let there = there_whole block_size plain after' here b in
      ⊎_elim
      (λ (t : is_block (length plain) block_size b ≡ true).
      rw (there, t, word_whole block_size plain after' here b t (third a) (omega arith)) (entry_whole (block_word plain block_size b (third a)) _))
      (λ (t : is_block (length plain) block_size b ≡ false). rw (there, t))
      (way (is_block (length plain) block_size b))

pub whole_blocks : WholeBlocks
unfolding lookup_in first_read
whole_blocks first packed plain last packed' plain' last' a p q r =
    let entry = get_or first (sixteen a) 0 in
    rw (packed_whole last last' r a packed packed' p (entry - pointer), plain_whole last last' r a plain plain' q (entry - plain_pointer))
