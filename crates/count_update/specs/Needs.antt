-- For the proofs: what the inner functions of the counted updates ask of each other. RULES, "Addresses per port". Assumes nothing.
use Rattle.std.specs.Prelude.{◌≡◌, true, List, ℕ, ◌≤◌, length}
use Rattle.refusals.specs.declared.Answer.{Answer}
use Rattle.table_rows.specs.Words.{capacity, row_at}
use Rattle.table_rules.specs.Check.{is_good}
use Rattle.count_rules.specs.Tally.{ports}

-- 4,095 fresh counts, and as many lent
pub record FreshLent (counts fresh : List ℕ) : Type 0 where
  pub room : ports ≤ length counts
  pub made : length fresh ≡ ports

-- a table in good order, and 4,095 counts
pub record Countable (rows : List ℕ) (n : ℕ) (counts : List ℕ) : Type 0 where
  pub good : is_good 32 (capacity rows) (row_at rows) n ≡ true
  pub room : ports ≤ length counts

-- the rows as an update leaves them, in good order where it is accepted
pub record Settles (done : Answer) (rows counts : List ℕ) : Type 0 where
  pub good : done.number ≡ 0 → is_good 32 (capacity rows) (row_at rows) done.count ≡ true
  pub room : ports ≤ length counts
