-- Defines "exactly in the listed case": the checks of a call one after the other, each with the number and the place that a refusal
-- shows where it fails. RULES, "Refusals" and "Order of the checks". Assumes nothing.
use Rattle.std.specs.Prelude.{◌≡◌, ◌⊎◌, ℕ}

-- which numbers and places a call may show
abbrev pub Verdict : Type 1
Verdict = ℕ → ℕ → Type 0

abbrev pub shows : ℕ → ℕ → Verdict
shows number place m p = (m ≡ number) × (p ≡ place)

-- "0 | done | 0"
abbrev pub done : Verdict
done = shows 0 0

-- one of two ways to go on
abbrev pub whether : Type 0 → Verdict → Verdict → Verdict
whether P then else m p = (P × then m p) ⊎ ((P → ⊥) × else m p)

-- a check: refused where something is wrong, and only there; else what follows decides
abbrev pub refuse : ℕ → ℕ → Type 0 → Verdict → Verdict
refuse number place Wrong rest = whether Wrong (shows number place) rest

-- the lamp of a call that has these checks: it shows what they say, and where that is a refusal, Kept holds: "all other results 0",
-- and no lent memory is written
pub record Lamp (checks : Verdict) (number place : ℕ) (Kept : Type 0) : Type 0 where
  pub exact : checks number place
  pub kept : (number ≡ 0 → ⊥) → Kept

-- "exactly": checks that allow one number and one place
abbrev pub Decides : Verdict → Type 0
Decides checks = (m p m' p' : ℕ) → checks m p → checks m' p' → (m ≡ m') × (p ≡ p')

-- checks that never show a number
abbrev pub Without : ℕ → Verdict → Type 0
Without number checks = (m p : ℕ) → checks m p → m ≡ number → ⊥
