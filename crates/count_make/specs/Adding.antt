-- Defines how runs are added to the counts of their ports, one after the other: RULES, "Addresses per port". Assumes nothing.
use Rattle.std.specs.Prelude.{List, [], ◌∷◌, ℕ, ◌+◌, ◌-◌, ◌*◌, ◌^◌, ◌≤◌, ◌<◌, length, get_or, set}
use Rattle.lists.specs.Numbered.{list_of}
use Rattle.runs_rules.specs.Runs.{Run, run_size, run_at}
use Rattle.count_rules.specs.Tally.{ports}

abbrev pub noughts : ℕ → List ℕ
noughts k = list_of (λ _. 0) k 0

-- the addresses from its first to its last
abbrev pub addresses_of : Run → ℕ
addresses_of r = r.last - r.first + 1

abbrev pub add_run : List ℕ → Run → List ℕ
add_run counts r = set counts r.port (get_or counts r.port 0 + addresses_of r)

unfoldable pub added_runs : List ℕ → List Run → List ℕ
added_runs counts [] = counts
added_runs counts (r ∷ rs) = added_runs (add_run counts r) rs

-- the run has addresses, its port a count, and the sum 64 bits
pub record Addable (counts : List ℕ) (r : Run) : Type 0 where
  pub some : r.first ≤ r.last
  pub counted : r.port < length counts
  pub small : get_or counts r.port 0 + addresses_of r < 2 ^ 64

-- the words of k runs are lent; each of them has addresses, and a port that is counted; and no such count is so large that they could take
-- it past 64 bits
pub record AllAddable (words : List ℕ) (k : ℕ) (counts : List ℕ) : Type 0 where
  pub lent : k * run_size ≤ length words
  pub few : k < 2 ^ 32
  pub some : (i : ℕ) → i < k → (run_at words i).first ≤ (run_at words i).last
  pub counted : (i : ℕ) → i < k → (run_at words i).port < ports
  pub room : ports ≤ length counts
  pub small : (port : ℕ) → port < ports → get_or counts port 0 + k * 2 ^ 32 < 2 ^ 64
