-- Defines when the routes of rows may be written in ascending order by a walk: RULES, "Build and save". Assumes nothing.
use Rattle.std.specs.Prelude.{Bool, ◌++◌, ℕ, zero, suc, ◌<◌}
use Rattle.table_rules.specs.Rows.{Mem, child}
use Rattle.table_rules.specs.Walk.{saved_below}
use Rattle.table_rules.specs.Ascending.{Ascending}

-- every row from r on, with k bits left, is one of `room` rows, and what it has below it ascends
unfoldable pub Savable : Mem → ℕ → ℕ → ℕ → Type 0
Savable M room zero r = r < room
Savable M room (suc k) r =
    (r < room) × Ascending (saved_below M k (M r).left ++ saved_below M k (M r).right)
    × ((b : Bool) → 0 < child (M r) b → Savable M room k (child (M r) b))
