-- Defines when the first k routes of a list fill lent rows: RULES, "Build and save". Assumes nothing.
use Rattle.std.specs.Prelude.{List, ℕ, ◌≤◌}
use Rattle.routes.specs.Routes.{ValidList}
use Rattle.routes.specs.declared.Route.{Route}
use Rattle.table_rules.specs.Rows.{Layout}

-- the list is valid, and there is a row for each route
pub record Fills (L : Layout (List ℕ)) (w : ℕ) (R : ℕ → Route) (words : List ℕ) (k : ℕ) : Type 0 where
  pub list_valid : ValidList w R k
  pub few : k ≤ L.room words
