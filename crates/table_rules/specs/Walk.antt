-- Defines the parts of the walks that check and save a table, as the code names them: RULES, "Good order" and "Build and save".
-- Assumes nothing.
use Rattle.std.specs.Prelude.{cond, not, ◌||◌, List, [], ℕ, eqb}
use Rattle.routes.specs.declared.Route.{Route}
use Rattle.table_rules.specs.Rows.{Mem}
use Rattle.table_rules.specs.Check.{seen, no_rows, wrong_rows, seen_at}
use Rattle.table_rules.specs.Save.{saved_at}
use Rattle.table_rules.specs.declared.Row.{Row}
use Rattle.table_rules.specs.Check.{Seen}

-- a row at the full depth, which has no children
abbrev pub last_seen : Row → Seen
last_seen x = cond (not (eqb x.left 0) || not (eqb x.right 0)) wrong_rows (seen 1 x.value x.len)

-- the rows from the child c on; "0 as a child means none"
abbrev pub seen_below : ℕ → Mem → ℕ → ℕ → ℕ → ℕ → Seen
seen_below w M n k path c = cond (eqb c 0) no_rows (seen_at w M n k path c)

-- their routes
abbrev pub saved_below : Mem → ℕ → ℕ → List Route
saved_below M k c = cond (eqb c 0) [] (saved_at M k c)
