-- Defines the maximal runs of a port of an address f : ℕ → ℕ, with no word of a listing, and states that the listing names just these:
-- RULES, "Demands", "The run listing". Assumes nothing.
use Rattle.std.specs.Prelude.{◌≡◌, ◌↔◌, ◌⊎◌, List, [], ◌∷◌, ℕ, ◌+◌, ◌-◌, ◌≤◌, ◌<◌}
use Rattle.runs_rules.specs.Runs.{Run, Lists}

-- "a stretch of neighbouring addresses with one port, …, and part of no longer such stretch": among the addresses 0 .. n-1
pub record Maximal (f : ℕ → ℕ) (n : ℕ) (r : Run) : Type 0 where
  pub not_empty : r.first ≤ r.last
  pub ends_within : r.last < n
  pub one_port : (x : ℕ) → r.first ≤ x → x ≤ r.last → f x ≡ r.port
  pub no_longer_before : 0 < r.first → f (r.first - 1) ≡ r.port → ⊥
  pub no_longer_after : r.last + 1 < n → f (r.last + 1) ≡ r.port → ⊥

-- r is one of the runs listed
abbrev pub Named : Run → List Run → Type 0
Named r [] = ⊥
Named r (q ∷ qs) = (r ≡ q) ⊎ Named r qs

-- "once, in order": from address a on, each begins after the one before it has ended
abbrev pub Ascending : ℕ → List Run → Type 0
Ascending a [] = Unit {0}
Ascending a (r ∷ rs) = (a ≤ r.first) × (r.first ≤ r.last) × Ascending (r.last + 1) rs

-- "names each maximal run of addresses with one port, once, in order, and nothing besides"
pub record NamesMaximal (f : ℕ → ℕ) (n : ℕ) (rs : List Run) : Type 0 where
  pub each_and_no_other : (r : Run) → Named r rs ↔ Maximal f n r
  pub once_in_order : Ascending 0 rs

-- THE LISTING does so, and no other list of runs
abbrev pub ListingIsMaximal : Type 0
ListingIsMaximal = (f : ℕ → ℕ) (n : ℕ) (rs : List Run) → Lists f n 0 rs ↔ NamesMaximal f n rs
