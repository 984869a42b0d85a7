-- Defines the run listing of a table: RULES, "The run listing", "Order of the checks". Assumes nothing.
use Rattle.std.specs.Prelude.{cond, List, ℕ, get_or}
use Rattle.promise.specs.Over.{Outcome, outcome}
use Rattle.refusals.specs.Refusals.{not_in_order, refused}
use Rattle.routes.specs.Routes.{route}
use Rattle.refusals.specs.declared.Answer.{Answer}
use Rattle.routes.specs.declared.Route.{Route}
use Rattle.table_rules.specs.Rows.{Mem}
use Rattle.table_rules.specs.Check.{is_good}
use Rattle.table_rules.specs.Save.{saved}
use Rattle.runs_rules.specs.Listing.{listed, write_runs}

-- the routes of a table in list order
abbrev pub table_routes : ℕ → Mem → ℕ → ℕ → Route
table_routes w M n i = get_or (saved w M n) i (route 0 0 0)

unfoldable pub table_runs : ℕ → ℕ → Mem → ℕ → List ℕ → Outcome Answer
table_runs w capacity M n lent =
    cond (is_good w capacity M n) (write_runs (listed w (table_routes w M n) n) lent) (outcome (refused not_in_order 0) lent)
