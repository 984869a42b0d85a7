-- Defines tables and tallies as the code holds them, and what the parts of the call ask. Assumes nothing.
use Rattle.std.specs.Prelude.{◌≡◌, true, List, ℕ, ◌+◌, ◌*◌, ◌^◌, ◌≤◌, ◌<◌, length}
use Rattle.routes.specs.Bounds.{most_routes}
use Rattle.routes.specs.Check.{is_port}
use Rattle.table_rules.specs.Check.{is_good}
use Rattle.table_rows.specs.Words.{row_size, five_words}
use Rattle.table_update.specs.History.{Table}
use Rattle.message_rules.specs.Message.{most_size}
use Rattle.message_calls.specs.Steps.{Noted}
use Rattle.message_apply.specs.declared.Tally.{Tally}

-- words and a number are a table
abbrev pub table_as : List ℕ → ℕ → Table
table_as words n = record { words = words; count = n }

-- the words of the prefixes seen, with their tally
abbrev pub noted_as : List ℕ → Tally → Noted
noted_as words t = record { met = table_as words t.met; hits = t.hits }

-- numbers that one prefix more leaves within a word
pub record Small (t : Tally) : Type 0 where
  pub met : t.met < 2 ^ 31
  pub hits : t.hits < 2 ^ 31

-- the words of a row for each of 4,096 prefixes
abbrev pub seen_size : ℕ
seen_size = most_routes * row_size

-- what the check has shown of the parts of a message and of a table
pub record Applies (port : ℕ) (gone come words : List ℕ) (n : ℕ) : Type 0 where
  pub ported : is_port port ≡ true
  pub good : is_good 32 (five_words.room words) (five_words.get words) n ≡ true
  pub few : length gone + length come ≤ most_size
