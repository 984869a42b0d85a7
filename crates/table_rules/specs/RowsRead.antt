-- Defines which rows a lookup reads, apart from the search: RULES, "Lookup in a table". Assumes nothing.
use Rattle.std.specs.Prelude.{◌≡◌, Bool, true, false, cond, not, ◌&&◌, ℕ, ◌+◌, ◌<◌, eqb, ltb, take}
use Rattle.bits.specs.Bits.{bits}
use Rattle.refusals.specs.Refusals.{not_in_order}
use Rattle.table_rules.specs.Rows.{Mem, row_of}
use Rattle.table_rules.specs.Lookup.{wrong_row, ends_at}

-- the row at a depth on the way of an address: row 0, and then "the child on the side of the address bit whose number is the depth"
abbrev pub row_along : ℕ → Mem → ℕ → ℕ → ℕ
row_along w M a depth = row_of M 0 (take depth (bits w a))

-- the row there is wrong
abbrev pub wrong_along : ℕ → Mem → ℕ → ℕ → ℕ → Bool
wrong_along w M n a depth = wrong_row w (M (row_along w M a depth)) n a depth

-- the search goes on below it: it is not wrong and does not end the search, the depth is not the full one, and there is such a child
abbrev pub goes_on : ℕ → Mem → ℕ → ℕ → ℕ → Bool
goes_on w M n a depth =
    not (wrong_along w M n a depth) && not (ends_at w (M (row_along w M a depth)) a depth) && ltb depth w
    && not (eqb (row_along w M a (depth + 1)) 0)

-- k rows are read, down to the first below which the search does not go on; the number is 11 exactly if that one is wrong,
-- "which counts as read"
pub record RowsRead (w : ℕ) (M : Mem) (n a k number : ℕ) : Type 0 where
  pub depth : ℕ
  pub count : k ≡ depth + 1
  pub passed : (d : ℕ) → d < depth → goes_on w M n a d ≡ true
  pub stops : goes_on w M n a depth ≡ false
  pub refusal : number ≡ cond (wrong_along w M n a depth) not_in_order 0
