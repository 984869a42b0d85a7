-- What the codewords of a packed segment say of its entries, and that packing loses nothing. Assumes nothing.
use mathlib.Core.Path.{◌≡◌, refl, ap, ◌∙◌}
use mathlib.Core.Logic.{⊎_elim}
use mathlib.Core.Bool.{Bool, true, false, cond, not}
use mathlib.Core.List.{List, [], ◌∷◌}
use Prim.Native.Nat.{ℕ, zero, suc, ◌+◌, ◌-◌, ◌*◌, ◌/◌, ◌%◌, ◌^◌, ◌≤◌, ◌<◌}
use native.Mathlib.Omega.{arith}
use native.Mathlib.Numerals.{add-one}
use lib.Count.{ones, ones-le, ones_cat}
use lib.Dec.{eqb}
use lib.ListN.{length, get_or, length-append, length-replicate, get_or-append}
use lib.Pow.{shr-shr}
use lib.Seq.{get_or-append-add}
use borrow.Author.Tests.{eqb-true, leb-true, not-false}
use Rattle.lists.specs.Below.{number_below}
use Rattle.lists.specs.Numbered.{list_of}
use Rattle.lists.proofs.Tests.{way, neither}
use Rattle.lists.proofs.Below.{number_suc, number_pass, number_mono, gathered_at, length_gathered}
use Rattle.lists.proofs.Numbered.{list_of_snoc, length_list_of, get_d_list_of}
use Rattle.bits.specs.Bits.{bit, value}
use Rattle.bits.specs.Bitmap.{slot_bit, ones_before}
use Rattle.bits.proofs.Bits.{value_append, value_lt}
use Rattle.segment_rules.specs.Packed.{block_size, codewords, most_kept, packed_size, is_one, ones_below, eight_bits, codeword, kept, is_packed, packed_entries, packed_block}
use Rattle.segment_rules.specs.Lookup.{rank}
use Rattle.segment_rules.specs.Theorems.{PackedRule, BitRule, BaseRule}

-- k tests as bits, the first of them highest, and the number that they write

bit_lt : (b : Bool) → bit b < 2
bit_lt true = omega arith
bit_lt false = omega arith

ones_bit : (b : Bool) → ones (bit b) ≡ cond b 1 0
unfolding ones
ones_bit true = refl
ones_bit false = refl

module _ (t : ℕ → Bool) where
  pub value_list_of_lt : (k i : ℕ) → value (list_of t k i) < 2 ^ k
  value_list_of_lt k i = rw (length_list_of t k i) at (value_lt (list_of t k i))

  -- one test more is a bit shifted in
  pub value_list_of_suc : (k i : ℕ) → value (list_of t (k + 1) i) ≡ value (list_of t k i) * 2 + bit (t (i + k))
  value_list_of_suc k i =
      rw (add-one k, list_of_snoc t k i) (omega (arith, value_append (list_of t k i) (t (i + k) ∷ [])))

  -- its ones are the tests that pass
  pub ones_list_of : (k i : ℕ) → number_below t i + ones (value (list_of t k i)) ≡ number_below t (i + k)
  ones_list_of zero i =
      let z : i + 0 ≡ i = omega arith in rw z (omega (arith, ones-le 0 (value (list_of t 0 i)) (value_list_of_lt 0 i)))
  ones_list_of (suc k) i =
      let z : i + suc k ≡ i + k + 1 = omega arith in
      let b = t (i + k) in
      rw (z, ← add-one k, value_list_of_suc k i)
      (omega (arith, ones_cat 1 (value (list_of t k i)) (bit b) (bit_lt b), ones_bit b, ones_list_of k i, number_suc t (i + k)))

  -- the first k of k + d tests
  value_list_of_front : (k d i : ℕ) → value (list_of t (k + d) i) / 2 ^ d ≡ value (list_of t k i)
  value_list_of_front k zero i = let z : k + 0 ≡ k = omega arith in rw z (omega arith)
  value_list_of_front k (suc d) i =
      let z : k + suc d ≡ k + d + 1 = omega arith in
      let p : 1 + d ≡ suc d = omega arith in
      let x = value (list_of t (k + d + 1) i) in
      let half : x / 2 ^ 1 ≡ value (list_of t (k + d) i) = omega (arith, value_list_of_suc (k + d) i, bit_lt (t (i + (k + d)))) in
      rw (z, ← p, ← shr-shr x 1 d, half) (value_list_of_front k d i)

  -- as a bitmap of n slots: the part before slot j is that of j tests
  before_list_of : (n i j : ℕ) → j ≤ n → value (list_of t n i) / 2 ^ (n - j) ≡ value (list_of t j i)
  before_list_of n i j h = let z : j + (n - j) ≡ n = omega arith in rw z at (value_list_of_front j (n - j) i)

  pub ones_before_list_of : (n i j : ℕ) → j ≤ n → number_below t i + ones_before n (value (list_of t n i)) j ≡ number_below t (i + j)
  ones_before_list_of n i j h = rw (before_list_of n i j h) (ones_list_of j i)

  slot_bit_list_of : (n i j : ℕ) → j < n → slot_bit n (value (list_of t n i)) j ≡ bit (t (i + j))
  slot_bit_list_of n i j h =
      let z : n - 1 - j ≡ n - (j + 1) = omega arith in
      rw (z, before_list_of n i (j + 1) (omega arith)) (omega (arith, value_list_of_suc j i, bit_lt (t (i + j))))

module _ (entries : List ℕ) where
  one_first : is_one entries 0 ≡ true
  unfolding is_one
  one_first = refl

  pub ones_some : (i : ℕ) → 0 < ones_below entries (i + 1)
  ones_some i =
      omega (arith, number_pass (is_one entries) 0 one_first, number_mono (is_one entries) 1 (i + 1) (omega arith))

  -- an entry without a one is as the entry before it
  pub entry_same : (i : ℕ) → is_one entries i ≡ false → get_or entries i 0 ≡ get_or entries (i - 1) 0
  unfolding is_one
  entry_same i e =
      let same = eqb (get_or entries i 0) (get_or entries (i - 1) 0) in
      eqb-true _ _ (not-false same (neither (eqb i 0) (not same) e).1)

  -- the entries kept

  module _ (n : ℕ) where
    pub length_kept : length (kept entries n) ≡ ones_below entries n
    length_kept = length_gathered (is_one entries) (λ j. get_or entries j 0 ∷ []) 1 n (λ x l t. refl) ∙ omega arith

    kept_one : (i : ℕ) → i < n → is_one entries i ≡ true → get_or (kept entries n) (ones_below entries (i + 1) - 1) 0 ≡ get_or entries i 0
    kept_one i h t =
        let p : ones_below entries (i + 1) - 1 ≡ ones_below entries i * 1 + 0 = omega (arith, number_pass (is_one entries) i t) in
        rw p (gathered_at (is_one entries) (λ j. get_or entries j 0 ∷ []) 1 i n h t (λ x l u. refl) 0 (omega arith))

    -- an entry stands among those kept at the ones through it, less one
    pub kept_at : (i : ℕ) → i < n → get_or (kept entries n) (ones_below entries (i + 1) - 1) 0 ≡ get_or entries i 0
    kept_at zero h = kept_one 0 h one_first
    kept_at (suc i) h =
        ⊎_elim
        (λ (t : is_one entries (suc i) ≡ true). kept_one (suc i) h t)
        (λ (t : is_one entries (suc i) ≡ false).
        let p : ones_below entries (suc i + 1) ≡ ones_below entries (suc i) = omega (arith, rw t at (number_suc (is_one entries) (suc i))) in
        let q : suc i - 1 ≡ i = omega arith in
        rw (p, entry_same (suc i) t, q, ← add-one i) (kept_at i (omega arith)))
        (way (is_one entries (suc i)))

  -- the codewords, where 64 ones at most leave the base its eight bits

  module _ (few : ones_below entries block_size ≤ most_kept) where
    base_codeword : (c : ℕ) → c < codewords → codeword entries c % 256 ≡ ones_below entries (c * 8)
    base_codeword c h = omega (arith, number_mono (is_one entries) (c * 8) block_size (omega arith))

    bits_codeword : (c : ℕ) → c < codewords → codeword entries c / 256 ≡ eight_bits entries c
    bits_codeword c h = omega (arith, number_mono (is_one entries) (c * 8) block_size (omega arith))

    pub rank_codeword : (i : ℕ) → i < block_size → rank (codeword entries (i / 8)) (i % 8) ≡ ones_below entries (i + 1)
    rank_codeword i h =
        let c : i / 8 < codewords = omega arith in
        let e : i / 8 * 8 + (i % 8 + 1) ≡ i + 1 = omega arith in
        rw (base_codeword (i / 8) c, bits_codeword (i / 8) c)
        (ones_before_list_of (is_one entries) 8 (i / 8 * 8) (i % 8 + 1) (omega arith) ∙ ap (ones_below entries) e)

  -- the block

  few_ones : is_packed entries ≡ true → ones_below entries block_size ≤ most_kept
  few_ones packed = leb-true (ones_below entries block_size) most_kept packed

  pub ones_few : (i : ℕ) → is_packed entries ≡ true → i < block_size → ones_below entries (i + 1) ≤ most_kept
  ones_few i packed h = omega (arith, few_ones packed, number_mono (is_one entries) (i + 1) block_size (omega arith))

  pub length_packed_entries : is_packed entries ≡ true → length (packed_entries entries) ≡ most_kept
  length_packed_entries packed =
      simp (length-append, length-replicate) (omega (arith, length_kept block_size, few_ones packed))

  pub length_packed_block : is_packed entries ≡ true → length (packed_block entries) ≡ packed_size
  unfolding packed_block
  length_packed_block packed =
      rw (length-append (list_of (codeword entries) codewords 0) (packed_entries entries), length_packed_entries packed, length_list_of)

  packed_block_code : (c : ℕ) → c < codewords → get_or (packed_block entries) c 0 ≡ codeword entries c
  unfolding packed_block
  packed_block_code c h =
      get_or-append (list_of (codeword entries) codewords 0) (packed_entries entries) 0 c
      (omega (arith, length_list_of (codeword entries) codewords 0))
      ∙ get_d_list_of (codeword entries) codewords 0 c 0 h ∙ ap (codeword entries) (omega arith)

  packed_block_entry : (k : ℕ) → get_or (packed_block entries) (codewords + k) 0 ≡ get_or (packed_entries entries) k 0
  unfolding packed_block
  packed_block_entry k =
      let cs = list_of (codeword entries) codewords 0 in
      let n : codewords + k ≡ length cs + k = omega (arith, length_list_of (codeword entries) codewords 0) in
      ap (λ (m : ℕ). get_or (packed_block entries) m 0) n ∙ get_or-append-add cs (packed_entries entries) k 0

pub base_rule : BaseRule
base_rule entries c packed h = rw (packed_block_code entries c h) (base_codeword entries (few_ones entries packed) c h)

pub bit_rule : BitRule
bit_rule entries i packed h =
    let c : i / 8 < codewords = omega arith in
    let e : i / 8 * 8 + i % 8 ≡ i = omega arith in
    rw (packed_block_code entries (i / 8) c, bits_codeword entries (few_ones entries packed) (i / 8) c)
    (slot_bit_list_of (is_one entries) 8 (i / 8 * 8) (i % 8) (omega arith) ∙ ap (λ (k : ℕ). bit (is_one entries k)) e)

pub packed_rule : PackedRule
packed_rule entries i packed h =
    let at = ones_below entries (i + 1) - 1 in (
      rw (packed_block_code entries (i / 8) (omega arith)) (rank_codeword entries (few_ones entries packed) i h),
      packed_block_entry entries at
          ∙ get_or-append (kept entries block_size) _ 0 at
          (omega (arith, length_kept entries block_size, ones_some entries i, number_mono (is_one entries) (i + 1) block_size (omega arith)))
          ∙ kept_at entries block_size i h,
    )
