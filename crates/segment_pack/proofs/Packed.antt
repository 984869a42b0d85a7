-- A packed block as it is filled: its codewords, and the entries that have a one, each at its rank. Assumes nothing.
use mathlib.Core.Path.{◌≡◌, refl, sym, ap, ap₂, ◌∙◌}
use mathlib.Core.Logic.{⊎_elim}
use mathlib.Core.Bool.{true, false, true≢false}
use mathlib.Core.List.{List, [], ◌∷◌, ◌++◌, append_assoc, append-nil}
use Prim.Native.Nat.{ℕ, zero, suc, ◌+◌, ◌-◌, ◌*◌, ◌/◌, ◌%◌, ◌≤◌, ◌<◌}
use native.Mathlib.Omega.{arith}
use native.Mathlib.Nat.{add-zero}
use lib.Count.{ones}
use lib.ListN.{length, get_or, set, replicate, length-append, length-replicate, drop_of_length-le, get_or-append}
use lib.Seq.{get_or-append-add, set-append_seam, append_snoc, set-get_or}
use borrow.Author.Tests.{eq-eqb, ne_eqb, le-leb, lt-leb}
use Rattle.segment_pack.proofs.Codewords.{words_back}
use Rattle.promise.specs.Over.{over}
use Rattle.lists.specs.Below.{number_below}
use Rattle.lists.specs.Numbered.{list_of, in_order}
use Rattle.lists.proofs.Tests.{way, test_no}
use Rattle.lists.proofs.Below.{number_pass, number_skip, number_mono, number_lt, gathered_pass, gathered_skip}
use Rattle.lists.proofs.Numbered.{length_list_of, get_d_list_of}
use Rattle.entries.specs.Entries.{filled}
use Rattle.entries.proofs.Filled.{filled_over}
use Rattle.segment_rules.specs.Packed.{block_size, codewords, most_kept, packed_size, is_one, ones_below, eight_bits, codeword, kept, packed_block}
use Rattle.segment_rules.proofs.Ranks.{ones_list_of, ones_before_list_of, value_list_of_lt, length_kept, kept_at, entry_same, ones_some}
use Rattle.segment_pack.specs.declared.Code.{Code}
use Rattle.segment_pack.specs.Pack.{code_of, codes_of, rank_of, pack_into, copy_into}
use Rattle.segment_pack.specs.Needs.{packed_to, Coded, CodedAt}

-- an element after two lists takes the place of the one there
set_after : (a b zs : List ℕ) (z v : ℕ) → set (a ++ (b ++ (z ∷ zs))) (length a + length b) v ≡ a ++ ((b ++ (v ∷ [])) ++ zs)
set_after a b zs z v =
    ap₂ (λ (l : List ℕ) (k : ℕ). set l k v) (sym (append_assoc a b (z ∷ zs))) (sym (length-append a b))
    ∙ set-append_seam (a ++ b) z zs v ∙ append_assoc a b (v ∷ zs) ∙ ap (λ (l : List ℕ). a ++ l) (sym (append_snoc b v zs))

module _ (entries : List ℕ) where
  -- the first entry has a one
  not_first : (i : ℕ) → is_one entries i ≡ false → 0 < i
  unfolding is_one
  not_first zero t = absurd (true≢false t)
  not_first (suc i) t = omega arith

  -- the rank by a codeword of the segment
  pub rank_at : (c : Code) (i : ℕ) → i < block_size → c ≡ code_of entries (i / 8) → rank_of c i ≡ ones_below entries (i + 1)
  rank_at c i h is =
      let k : ℕ = i / 8 in
      let e : k * 8 + (i % 8 + 1) ≡ i + 1 = omega arith in
      ap (λ (x : Code). rank_of x i) is ∙ ones_before_list_of (is_one entries) 8 (k * 8) (i % 8 + 1) (omega arith) ∙ ap (ones_below entries) e

  -- what the codewords by value say
  module _ (cs : List Code) (is : cs ≡ codes_of entries) (d : Code) (k : ℕ) (h : k < codewords) where
    pub code_at : get_or cs k d ≡ code_of entries k
    unfolding codes_of
    code_at =
        let z : 0 + k ≡ k = omega arith in
        ap (λ (xs : List Code). get_or xs k d) is ∙ get_d_list_of (code_of entries) codewords 0 k d h ∙ ap (code_of entries) z

    -- small enough for a codeword of sixteen bits
    pub bits_lt : (get_or cs k d).bits < 256
    bits_lt = omega (arith, ap (λ (x : Code). x.bits) code_at, value_list_of_lt (is_one entries) 8 (k * 8))

    pub base_le : ones_below entries block_size ≤ most_kept → (get_or cs k d).base ≤ most_kept
    base_le few = omega (arith, few, ap (λ (x : Code). x.base) code_at, number_mono (is_one entries) (k * 8) block_size (omega arith))

    pub word_at : (get_or cs k d).bits * 256 + (get_or cs k d).base ≡ codeword entries k
    word_at = ap (λ (x : Code). x.bits * 256 + x.base) code_at

  abbrev front : List ℕ
  front = list_of (codeword entries) codewords 0

  length_front : length front ≡ codewords
  length_front = length_list_of (codeword entries) codewords 0

  pub length_packed_to : ones_below entries block_size ≤ most_kept → (i : ℕ) → i ≤ block_size → length (packed_to entries i) ≡ packed_size
  length_packed_to few i h =
      length-append front (kept entries i ++ replicate (most_kept - ones_below entries i) 0)
      ∙ omega (
        arith,
        length_front,
        length-append (kept entries i) (replicate (most_kept - ones_below entries i) 0),
        length_kept entries i,
        length-replicate {A = ℕ} (most_kept - ones_below entries i) 0,
        few,
        number_mono (is_one entries) i block_size h,
      )

  -- one entry more, at its rank
  module _ (few : ones_below entries block_size ≤ most_kept) (i : ℕ) (h : i < block_size) where
    room : ones_below entries (i + 1) ≤ most_kept
    room = omega (arith, few, number_mono (is_one entries) (i + 1) block_size (omega arith))

    abbrev ks : List ℕ
    ks = kept entries i

    abbrev zeros : ℕ → List ℕ
    zeros k = replicate (most_kept - ones_below entries k) 0

    more_one : is_one entries i ≡ true → set (packed_to entries i) (codewords + (ones_below entries (i + 1) - 1)) (get_or entries i 0) ≡ packed_to entries (i + 1)
    more_one t =
        let next : ones_below entries (i + 1) ≡ ones_below entries i + 1 = number_pass (is_one entries) i t in
        let place : codewords + (ones_below entries (i + 1) - 1) ≡ length front + length ks = omega (arith, next, length_front, length_kept entries i) in
        let left : most_kept - ones_below entries i ≡ suc (most_kept - ones_below entries (i + 1)) = omega (arith, next, room) in
        let one : zeros i ≡ 0 ∷ zeros (i + 1) = ap (λ (k : ℕ). replicate k 0) left in
        ap₂ (λ (zs : List ℕ) (k : ℕ). set (front ++ (ks ++ zs)) k (get_or entries i 0)) one place
        ∙ set_after front ks (zeros (i + 1)) 0 (get_or entries i 0)
        ∙ ap (λ (l : List ℕ). front ++ (l ++ zeros (i + 1))) (sym (gathered_pass (is_one entries) (λ j. get_or entries j 0 ∷ []) i t))

    more_none : is_one entries i ≡ false → set (packed_to entries i) (codewords + (ones_below entries (i + 1) - 1)) (get_or entries i 0) ≡ packed_to entries (i + 1)
    more_none t =
        let k : (j : ℕ) → i ≤ j → j < i + 1 → is_one entries j ≡ false = λ j u v. (let e : j ≡ i = omega arith in rw e t) in
        let same : ones_below entries (i + 1) ≡ ones_below entries i = number_skip (is_one entries) i 1 k in
        let still : packed_to entries (i + 1) ≡ packed_to entries i =
        ap₂ (λ (l : List ℕ) (m : ℕ). front ++ (l ++ replicate (most_kept - m) 0)) (gathered_skip (is_one entries) (λ j. get_or entries j 0 ∷ []) i 1 k) same in
        ap (λ (v : ℕ). set (packed_to entries i) (codewords + (ones_below entries (i + 1) - 1)) v) (sym (there same))
        ∙ set-get_or (packed_to entries i) (codewords + (ones_below entries (i + 1) - 1)) 0 ∙ sym still
      where
        later : 0 < i
        later = not_first i t

        there : ones_below entries (i + 1) ≡ ones_below entries i → get_or (packed_to entries i) (codewords + (ones_below entries (i + 1) - 1)) 0 ≡ get_or entries i 0
        there same =
            let one : i - 1 + 1 ≡ i = omega (arith, later) in
            let some : 0 < ones_below entries i = rw one at (ones_some entries (i - 1)) in
            let place : codewords + (ones_below entries (i + 1) - 1) ≡ length front + (ones_below entries i - 1) = omega (arith, same, some, length_front) in
            let at : get_or ks (ones_below entries i - 1) 0 ≡ get_or entries (i - 1) 0 =
            rw one at (kept_at entries i (i - 1) (omega (arith, later))) in
            ap (λ (j : ℕ). get_or (packed_to entries i) j 0) place
            ∙ get_or-append-add front (ks ++ zeros i) (ones_below entries i - 1) 0
            ∙ get_or-append ks (zeros i) 0 (ones_below entries i - 1) (omega (arith, some, length_kept entries i))
            ∙ at ∙ sym (entry_same entries i t)

    pub packed_more : set (packed_to entries i) (codewords + (ones_below entries (i + 1) - 1)) (get_or entries i 0) ≡ packed_to entries (i + 1)
    packed_more = ⊎_elim more_one more_none (way (is_one entries i))

  -- eight entries without a one
  pub packed_skip : (c : ℕ) → eight_bits entries c ≡ 0 → packed_to entries (c * 8) ≡ packed_to entries (c * 8 + 8)
  unfolding ones
  packed_skip c e =
      let same : ones_below entries (c * 8 + 8) ≡ ones_below entries (c * 8) =
      sym (ones_list_of (is_one entries) 8 (c * 8)) ∙ ap (λ (b : ℕ). ones_below entries (c * 8) + ones b) e ∙ add-zero (ones_below entries (c * 8)) in
      let none : (k : ℕ) → c * 8 ≤ k → k < c * 8 + 8 → is_one entries k ≡ false =
      λ k u v. test_no (is_one entries k) (λ t. omega (arith, same, number_lt (is_one entries) k (c * 8 + 8) v t, number_mono (is_one entries) (c * 8) k u)) in
      ap₂ (λ (ks : List ℕ) (m : ℕ). front ++ (ks ++ replicate (most_kept - m) 0))
      (sym (gathered_skip (is_one entries) (λ j. get_or entries j 0 ∷ []) (c * 8) 8 none)) (sym same)

  -- none of the entries yet, and all of them
  pub packed_none : (block : List ℕ) → length block ≡ packed_size → filled (over front block) codewords packed_size 0 ≡ packed_to entries 0
  unfolding in_order number_below
  packed_none block size =
      let past : length block ≤ length (front ++ replicate 64 0) = omega (arith, length-append front (replicate 64 0), length_front, length-replicate 64 (zero_of front)) in
      filled_over front block codewords packed_size 0 length_front (omega arith) (omega arith)
      ∙ ap (λ (l : List ℕ). front ++ replicate 64 0 ++ l) (drop_of_length-le block past)
      ∙ append-nil (front ++ replicate 64 0)
    where
      zero_of : List ℕ → ℕ
      zero_of l = 0

  pub packed_all : packed_to entries block_size ≡ packed_block entries
  unfolding packed_block
  packed_all = refl

-- the eight entries of a codeword, one after the other
module _ (entries : List ℕ) (code : Code) (c : ℕ) (ok : CodedAt entries code c) (l : c < codewords) where
  pub eight_none : (block : List ℕ) → block ≡ packed_to entries (c * 8) → block ≡ packed_to entries (c * 8 + 0)
  eight_none block e = let z : c * 8 + 0 ≡ c * 8 = omega arith in rw z e

  module _ (j : ℕ) (h : j < 8) (block : List ℕ) (is : block ≡ packed_to entries (c * 8 + j)) (rank : ℕ) (ranked : rank ≡ rank_of code (c * 8 + j)) where
    rank_is : rank ≡ ones_below entries (c * 8 + j + 1)
    rank_is =
        let own : c ≡ (c * 8 + j) / 8 = omega arith in
        ranked ∙ rank_at entries code (c * 8 + j) (omega arith) (ok.is ∙ ap (code_of entries) own)

    pub rank_some : 0 < rank
    rank_some = omega (arith, rank_is, ones_some entries (c * 8 + j))

    pub place_lt : codewords + (rank - 1) < length block
    place_lt =
        omega (arith, rank_is, room entries ok.few (c * 8 + j) (omega arith), ap length is, length_packed_to entries ok.few (c * 8 + j) (omega arith))

    pub eight_more : set block (codewords + (rank - 1)) (get_or entries (c * 8 + j) 0) ≡ packed_to entries (c * 8 + (j + 1))
    eight_more =
        let z : c * 8 + j + 1 ≡ c * 8 + (j + 1) = omega arith in
        ap₂ (λ (b : List ℕ) (r : ℕ). set b (codewords + (r - 1)) (get_or entries (c * 8 + j) 0)) is rank_is
        ∙ packed_more entries ok.few (c * 8 + j) (omega arith) ∙ ap (packed_to entries) z

-- and the codewords
pub all_more : (entries block : List ℕ) (c : ℕ) → block ≡ packed_to entries (c * 8 + 8) → block ≡ packed_to entries ((c + 1) * 8)
all_more entries block c e = let z : (c + 1) * 8 ≡ c * 8 + 8 = omega arith in rw z e

pub skip_more : (entries : List ℕ) (code : Code) (c : ℕ) → code ≡ code_of entries c → (block : List ℕ) → block ≡ packed_to entries (c * 8)
    → code.bits ≡ 0 → block ≡ packed_to entries ((c + 1) * 8)
skip_more entries code c is block e z =
    all_more entries block c (e ∙ packed_skip entries c (sym (ap (λ (x : Code). x.bits) is) ∙ z))

-- the rank of the last entry is the number of all ones
module _ (entries : List ℕ) (codes : List Code) (d : Code) (rank : ℕ) (is : codes ≡ codes_of entries) (ranked : rank ≡ rank_of (get_or codes 31 d) 255) where
  pub rank_all : rank ≡ ones_below entries block_size
  rank_all = ranked ∙ rank_at entries (get_or codes 31 d) 255 (omega arith) (code_at entries codes is d 31 (omega arith))

  pub coded : rank ≤ most_kept → Coded entries codes
  coded h = record { is = is; few = omega (arith, rank_all) }

-- what packing leaves
module _ (entries block : List ℕ) where
  pub pack_sized : (length block ≡ packed_size → ⊥) → block ≡ pack_into entries block
  unfolding pack_into
  pack_sized n = rw (ne_eqb (length block) packed_size n)

  module _ (sized : length block ≡ packed_size) (rank : ℕ) (is : rank ≡ ones_below entries block_size) where
    pub pack_plain : most_kept < rank → block ≡ pack_into entries block
    unfolding pack_into
    pack_plain h = rw (eq-eqb (length block) packed_size sized, lt-leb (ones_below entries block_size) most_kept (omega (arith, is)))

    pub pack_done : rank ≤ most_kept → packed_to entries block_size ≡ pack_into entries block
    unfolding pack_into
    pack_done h = packed_all entries ∙ rw (eq-eqb (length block) packed_size sized, le-leb (ones_below entries block_size) most_kept (omega (arith, is)))

-- a plain block, which is the entries
module _ (entries block : List ℕ) where
  pub copy_sized : (length block ≡ block_size → ⊥) → block ≡ copy_into entries block
  unfolding copy_into
  copy_sized n = rw (ne_eqb (length block) block_size n)

  pub copy_all : length block ≡ block_size → length entries ≡ block_size → entries ≡ copy_into entries block
  unfolding copy_into
  copy_all sized whole = sym (words_back entries block_size whole) ∙ rw (eq-eqb (length block) block_size sized)
