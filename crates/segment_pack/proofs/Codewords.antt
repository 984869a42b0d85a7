-- The bits of a segment's entries, one after the other, and the codewords and ranks that they make. Assumes nothing.
use mathlib.Core.Path.{◌≡◌, refl, sym, ap, ap₂, ◌∙◌}
use mathlib.Core.Bool.{Bool, true, false, cond}
use mathlib.Core.List.{List, [], ◌∷◌, ◌++◌, append-nil}
use Prim.Native.Nat.{ℕ, ◌+◌, ◌-◌, ◌*◌, ◌≤◌, ◌<◌}
use native.Mathlib.Omega.{arith}
use native.Mathlib.Numerals.{add-one}
use native.Mathlib.Nat.{zero-add}
use lib.Count.{ones, ones-le}
use lib.Pow.{pow_mono}
use lib.ListN.{length, get_or, set, drop_of_length-le}
use borrow.Author.Tests.{eq-eqb, ne_eqb}
use Rattle.std.proofs.lemmas.Grind.{same_number_lists}
use Rattle.promise.specs.Over.{over}
use Rattle.promise.proofs.Over.{over_push}
use Rattle.lists.specs.Numbered.{list_of}
use Rattle.lists.proofs.Below.{number_suc, number_zero}
use Rattle.lists.proofs.Numbered.{list_of_snoc, length_list_of, get_d_list_of}
use Rattle.bits.specs.Bits.{bit, value}
use Rattle.segment_rules.specs.Packed.{codewords, is_one, ones_below, eight_bits}
use Rattle.segment_rules.proofs.Ranks.{value_list_of_lt, value_list_of_suc, ones_list_of}
use Rattle.segment_pack.specs.declared.Code.{Code}
use Rattle.segment_pack.specs.Pack.{code, code_of, codes_of}

module _ (entries : List ℕ) where
  -- the bit of an entry, way by way
  pub bit_first : (i : ℕ) → i ≡ 0 → ◌≡◌ {A = ℕ} 1 (cond (is_one entries i) 1 0)
  unfolding is_one
  bit_first i e = rw (eq-eqb i 0 e)

  pub bit_same : (i : ℕ) → (i ≡ 0 → ⊥) → get_or entries i 0 ≡ get_or entries (i - 1) 0 → ◌≡◌ {A = ℕ} 0 (cond (is_one entries i) 1 0)
  unfolding is_one
  bit_same i n e = rw (ne_eqb i 0 n, eq-eqb (get_or entries i 0) (get_or entries (i - 1) 0) e)

  pub bit_differs : (i : ℕ) → (i ≡ 0 → ⊥) → (get_or entries i 0 ≡ get_or entries (i - 1) 0 → ⊥) → ◌≡◌ {A = ℕ} 1 (cond (is_one entries i) 1 0)
  unfolding is_one
  bit_differs i n e = rw (ne_eqb i 0 n, ne_eqb (get_or entries i 0) (get_or entries (i - 1) 0) e)

  -- one entry more
  pub ones_more : (i n b : ℕ) → n ≡ ones_below entries i → b ≡ cond (is_one entries i) 1 0 → n + b ≡ ones_below entries (i + 1)
  ones_more i n b e f = ap₂ (λ (x y : ℕ). x + y) e f ∙ sym (number_suc (is_one entries) i)

  bit_is : (b : Bool) → ◌≡◌ {A = ℕ} (cond b 1 0) (bit b)
  bit_is true = refl
  bit_is false = refl

  pub bits_none : (i : ℕ) → 0 ≡ value (list_of (is_one entries) 0 i)
  unfolding list_of
  bits_none i = refl

  pub bits_more : (i j n b : ℕ) → n ≡ value (list_of (is_one entries) j i) → b ≡ cond (is_one entries (i + j)) 1 0
      → n * 2 + b ≡ value (list_of (is_one entries) (j + 1) i)
  bits_more i j n b e f =
      ap₂ (λ (x y : ℕ). x * 2 + y) e (f ∙ bit_is (is_one entries (i + j))) ∙ sym (value_list_of_suc (is_one entries) j i)

  pub bits_small : (i j n : ℕ) → j ≤ 8 → n ≡ value (list_of (is_one entries) j i) → n < 256
  bits_small i j n h e = omega (arith, e, value_list_of_lt (is_one entries) j i, pow_mono h)

  -- one codeword more: its bits, its base, and the ones after it
  abbrev pub base : ℕ → ℕ
  base c = ones_below entries (c * 8)

  pub base_more : (c n b o : ℕ) → n ≡ base c → b ≡ eight_bits entries c → o ≡ ones b → n + o ≡ base (c + 1)
  base_more c n b o e f g =
      let z : c * 8 + 8 ≡ (c + 1) * 8 = omega arith in
      ap₂ (λ (x y : ℕ). x + y) e (g ∙ ap ones f) ∙ ones_list_of (is_one entries) 8 (c * 8) ∙ ap (ones_below entries) z

  pub base_none : 0 ≡ base 0
  base_none = sym (number_zero (is_one entries))

-- words, or codewords, that are written one after the other
pub words_none : {A : Type 0} (f : ℕ → A) (lent : List A) → lent ≡ over (list_of f 0 0) lent
unfolding list_of
words_none f lent = refl

pub words_more : {A : Type 0} (f : ℕ → A) (lent left : List A) (c : ℕ) (v : A) → left ≡ over (list_of f c 0) lent → c < length lent → v ≡ f c
    → set left c v ≡ over (list_of f (c + 1) 0) lent
words_more {A} f lent left c v e h g =
    let snoc : list_of f c 0 ++ (f c ∷ []) ≡ list_of f (c + 1) 0 =
    ap (λ (k : ℕ). list_of f c 0 ++ (f k ∷ [])) (sym (zero-add c)) ∙ sym (list_of_snoc f c 0) ∙ ap (λ (k : ℕ). list_of f k 0) (sym (add-one c)) in
    ap₂ (λ (xs : List A) (w : A). set xs c w) e g
    ∙ over_push (list_of f c 0) lent (f c) c (length_list_of f c 0) h
    ∙ ap (λ (xs : List A). over xs lent) snoc

pub words_all : {A : Type 0} (f : ℕ → A) (lent : List A) (c : ℕ) → length lent ≡ c → over (list_of f c 0) lent ≡ list_of f c 0
words_all {A} f lent c e =
    let past : length lent ≤ length (list_of f c 0) = omega (arith, length_list_of f c 0) in
    ap (λ (xs : List A). list_of f c 0 ++ xs) (drop_of_length-le lent past) ∙ append-nil (list_of f c 0)

-- the words of a list, one by one, are the list
pub words_back : (xs : List ℕ) (n : ℕ) → length xs ≡ n → list_of (λ i. get_or xs i 0) n 0 ≡ xs
words_back xs n e =
    let f = λ (i : ℕ). get_or xs i 0 in
    same_number_lists (list_of f n 0) xs (length_list_of f n 0 ∙ sym e)
    (λ k h. let z : 0 + k ≡ k = omega arith in get_d_list_of f n 0 k 0 (omega (arith, h, length_list_of f n 0)) ∙ ap f z)

-- the first c codewords are made
pub record CodedTo (entries : List ℕ) (codes₀ codes : List Code) (n c : ℕ) : Type 0 where
  pub codes_are : codes ≡ over (list_of (code_of entries) c 0) codes₀
  pub ones_are : n ≡ base entries c
  pub ones_few : n ≤ c * 8

module _ (entries : List ℕ) (codes₀ : List Code) (sized : length codes₀ ≡ codewords) where
  pub coded_none : CodedTo entries codes₀ codes₀ 0 0
  coded_none = record { codes_are = words_none (code_of entries) codes₀; ones_are = base_none entries; ones_few = omega arith }

  pub coded_more : {codes : List Code} {n c : ℕ} → CodedTo entries codes₀ codes n c → c < codewords
      → (b o : ℕ) → b ≡ eight_bits entries c → o ≡ ones b → b < 256 → CodedTo entries codes₀ (set codes c (code b n)) (n + o) (c + 1)
  coded_more {codes} {n} {c} st h b o is counted small = record {
    codes_are = words_more (code_of entries) codes₀ codes c (code b n) st.codes_are (omega arith) (ap₂ code is st.ones_are);
    ones_are = base_more entries c n b o st.ones_are is counted;
    ones_few = omega (arith, st.ones_few, counted, ones-le 8 b small);
  }

  pub coded_all : {codes : List Code} {n c : ℕ} → CodedTo entries codes₀ codes n c → c ≡ codewords → codes ≡ codes_of entries
  unfolding codes_of
  coded_all st e =
      st.codes_are ∙ ap (λ (k : ℕ). over (list_of (code_of entries) k 0) codes₀) e ∙ words_all (code_of entries) codes₀ codewords sized
