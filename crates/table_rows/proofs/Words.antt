-- The words of a table obey the laws of a store of rows: a stored row is read back, and no other row changes. Assumes nothing.
use mathlib.Core.Path.{◌≡◌, refl, sym, ap, ◌∙◌}
use mathlib.Core.List.{List, [], ◌∷◌}
use Prim.Native.Nat.{ℕ, ◌+◌, ◌*◌, ◌/◌, min, ◌<◌, ◌≤◌}
use native.Mathlib.Omega.{arith}
use native.Mathlib.Nat.{add-zero}
use native.Mathlib.Numerals.{towards_suc}
use lib.Dec.{ltb}
use mathlib.Core.Bool.{Bool, true, false, cond}
use borrow.Author.Tests.{lt-ltb}
use lib.ListN.{length, get_or}
use lib.Seq.{sets, length-sets}
use Rattle.table_rules.specs.Rows.{Stores}
use Rattle.table_rules.specs.Withdraw.{zero_row}
use Rattle.routes.specs.Bounds.{most_routes}
use Rattle.table_rows.specs.Words.{row_count, five_words, whole_row, store_whole, row_at, store_row}
use Rattle.table_rules.specs.declared.Row.{Row}
use Rattle.lists.proofs.Sets.{get_sets_same, get_sets_other}

-- a row's words
abbrev pub row_words : Row → List ℕ
row_words x = x.value ∷ x.len ∷ x.port ∷ x.left ∷ x.right ∷ []

store_row_sets : (ws : List ℕ) (r : ℕ) (x : Row) → store_whole ws r x ≡ sets ws (r * 5) (row_words x)
store_row_sets ws r x = simp towards_suc

module _ (ws : List ℕ) (r : ℕ) (x : Row) where
  whole_put : row_count (store_whole ws r x) ≡ row_count ws
  whole_put = ap (λ (n : ℕ). n / 5) (ap length (store_row_sets ws r x) ∙ length-sets ws (r * 5) (row_words x))

  whole_same : r < row_count ws → whole_row (store_whole ws r x) r ≡ x
  whole_same h = λ j. record {
    value = (ap (λ (i : ℕ). get_or (store_whole ws r x) i 0) (sym (add-zero (r * 5))) ∙ word 0 (omega arith)) j;
    len = word 1 (omega arith) j;
    port = word 2 (omega arith) j;
    left = word 3 (omega arith) j;
    right = word 4 (omega arith) j;
  }
    where
      word : (k : ℕ) → k < 5 → get_or (store_whole ws r x) (r * 5 + k) 0 ≡ get_or (row_words x) k 0
      word k l =
          ap (λ (s : List ℕ). get_or s (r * 5 + k) 0) (store_row_sets ws r x)
          ∙ get_sets_same (row_words x) ws (r * 5) k l (omega arith)

  whole_other : (i : ℕ) → (i ≡ r → ⊥) → whole_row (store_whole ws r x) i ≡ whole_row ws i
  whole_other i ne = λ j. record {
    value = word (i * 5) (λ l h. ne (omega arith)) j;
    len = word (i * 5 + 1) (λ l h. ne (omega arith)) j;
    port = word (i * 5 + 2) (λ l h. ne (omega arith)) j;
    left = word (i * 5 + 3) (λ l h. ne (omega arith)) j;
    right = word (i * 5 + 4) (λ l h. ne (omega arith)) j;
  }
    where
      word : (k : ℕ) → (r * 5 ≤ k → k < r * 5 + 5 → ⊥) → get_or (store_whole ws r x) k 0 ≡ get_or ws k 0
      word k out =
          ap (λ (s : List ℕ). get_or s k 0) (store_row_sets ws r x) ∙ get_sets_other (row_words x) ws (r * 5) k out

-- the same of rows that may lie past the end
module _ (ws : List ℕ) (r : ℕ) (x : Row) where
  rows_put : row_count (store_row ws r x) ≡ row_count ws
  unfolding store_row
  rows_put = go (ltb r (row_count ws))
    where
      go : (a : Bool) → row_count (cond a (store_whole ws r x) ws) ≡ row_count ws
      go true = whole_put ws r x
      go false = refl

  row_same : r < row_count ws → row_at (store_row ws r x) r ≡ x
  unfolding row_at
  row_same h = rw (lt-ltb r (row_count (store_row ws r x)) (rw rows_put h)) (unfold store_row in rw (lt-ltb r (row_count ws) h) (whole_same ws r x h))

  row_other : (i : ℕ) → (i ≡ r → ⊥) → row_at (store_row ws r x) i ≡ row_at ws i
  unfolding row_at
  row_other i ne =
      ap (λ (k : ℕ). cond (ltb i k) (whole_row (store_row ws r x) i) zero_row) rows_put
      ∙ ap (λ (y : Row). cond (ltb i (row_count ws)) y zero_row) words
    where
      go : (a : Bool) → whole_row (cond a (store_whole ws r x) ws) i ≡ whole_row ws i
      go true = whole_other ws r x i ne
      go false = refl

      words : whole_row (store_row ws r x) i ≡ whole_row ws i
      words = unfold store_row in go (ltb r (row_count ws))

pub words_stores : (w : ℕ) → Stores w five_words
words_stores w = record {
  room_put = λ ws r x. ap (λ (n : ℕ). min most_routes n) (rows_put ws r x);
  get_same = λ ws r x h k. row_same ws r x (omega arith);
  get_other = λ ws r i x ne. row_other ws r x i ne;
}
