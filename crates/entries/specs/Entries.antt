-- Defines what is in a store of entries once one is stored at a stretch of places. Assumes nothing.
use Rattle.std.specs.Prelude.{cond, List, ℕ, ◌-◌, leb, length, replicate}
use Rattle.std.proofs.lemmas.List.Edits.{sets}

-- at the places from one on, up to another; nothing is stored past the end
unfoldable pub filled : List ℕ → ℕ → ℕ → ℕ → List ℕ
filled store from past entry = cond (leb past (length store)) (sets store from (replicate (past - from) entry)) store
