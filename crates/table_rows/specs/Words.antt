-- Defines where a row lies in the words of a table: RULES, "The table". No other definition says so; the laws of updates are over any
-- layout, and this is the one in use. Assumes nothing.
use Rattle.std.specs.Prelude.{List, ℕ, ◌+◌, ◌*◌, ◌/◌, min, cond, ltb, length, get_or, set}
use Rattle.routes.specs.Bounds.{most_routes}
use Rattle.table_rules.specs.Rows.{Layout}
use Rattle.table_rules.specs.Withdraw.{zero_row}
use Rattle.table_rules.specs.declared.Row.{Row}

-- "A row is five 32-bit words"
abbrev pub row_size : ℕ
row_size = 5

-- how many whole rows there are
abbrev pub row_count : List ℕ → ℕ
row_count words = length words / row_size

-- "Capacity is the smaller of 4,096 and the number of whole rows lent."
abbrev pub capacity : List ℕ → ℕ
capacity words = min most_routes (row_count words)

-- "value, length, port, left row, right row"
abbrev pub whole_row : List ℕ → ℕ → Row
whole_row words r = record {
  value = get_or words (r * row_size) 0;
  len = get_or words (r * row_size + 1) 0;
  port = get_or words (r * row_size + 2) 0;
  left = get_or words (r * row_size + 3) 0;
  right = get_or words (r * row_size + 4) 0;
}

abbrev pub store_whole : List ℕ → ℕ → Row → List ℕ
store_whole words r x =
    set (set (set (set (set words (r * row_size) x.value) (r * row_size + 1) x.len) (r * row_size + 2) x.port) (r * row_size + 3) x.left)
    (r * row_size + 4) x.right

-- past the whole rows: zeros are read, nothing is written
unfoldable pub row_at : List ℕ → ℕ → Row
row_at words r = cond (ltb r (row_count words)) (whole_row words r) zero_row

unfoldable pub store_row : List ℕ → ℕ → Row → List ℕ
store_row words r x = cond (ltb r (row_count words)) (store_whole words r x) words

-- "A row is five 32-bit words", up to the capacity
abbrev pub five_words : Layout (List ℕ)
five_words = record { get = row_at; put = store_row; room = capacity }
