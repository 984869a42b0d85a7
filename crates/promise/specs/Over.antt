-- Defines what a writer leaves: RULES, "Calls". Assumes nothing.
use Rattle.std.specs.Prelude.{List, ◌++◌, ℕ, ◌+◌, length, drop, set}

-- the output, and then what was lent past it
abbrev pub over : {A : Type 0} → List A → List A → List A
over out lent = out ++ drop (length out) lent

-- three words stored one after the other
abbrev pub store_three : List ℕ → ℕ → ℕ → ℕ → ℕ → List ℕ
store_three words at a b c = set (set (set words at a) (at + 1) b) (at + 2) c

-- what a call answers, and what it leaves in the memory it was lent to write
pub record Outcome (A : Type 0) : Type 0 where
  pub answer : A
  pub lent : List ℕ

abbrev pub outcome : {A : Type 0} → A → List ℕ → Outcome A
outcome answer lent = record { answer = answer; lent = lent }
