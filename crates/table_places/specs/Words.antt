-- Defines the words past the whole rows of a table: RULES, "Readings", "Only whole rows and whole nodes count as lent". Assumes nothing.
use Rattle.std.specs.Prelude.{List, ℕ, ◌*◌, drop}
use Rattle.table_rows.specs.Words.{row_size, row_count}

-- "Words after the last whole one are neither read nor written"
abbrev pub after_rows : List ℕ → List ℕ
after_rows words = drop (row_count words * row_size) words
