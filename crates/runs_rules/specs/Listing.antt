-- Defines the listing of routes and what a call that writes it answers and leaves: RULES, "The run listing", "Order of the
-- checks". Assumes nothing.
use Rattle.std.specs.Prelude.{cond, List, ℕ, ◌/◌, ◌^◌, eqb, leb, length}
use Rattle.promise.specs.Over.{Outcome, outcome, over}
use Rattle.refusals.specs.Refusals.{no_room, refused, accepted}
use Rattle.routes.specs.Routes.{route_at, route_count}
use Rattle.routes.specs.Check.{list_check}
use Rattle.routes.specs.Scan.{scan_of}
use Rattle.routes.specs.declared.Route.{Route}
use Rattle.refusals.specs.declared.Answer.{Answer}
use Rattle.runs_rules.specs.Runs.{Run, runs, run_size, run_words}

-- the listing of n routes: the runs of their plain scan over the whole address space
abbrev pub listed : ℕ → (ℕ → Route) → ℕ → List Run
listed w R n = runs (scan_of w R n) (2 ^ w)

-- "then 9"; the words of the runs over the front of the lent memory, and how many runs there are
unfoldable pub write_runs : List Run → List ℕ → Outcome Answer
write_runs rs lent =
    cond (leb (length rs) (length lent / run_size)) (outcome (accepted (length rs)) (over (run_words rs) lent)) (outcome (refused no_room 0) lent)

-- "The runs of a valid list": the list checks come first
unfoldable pub list_runs : ℕ → List ℕ → List ℕ → Outcome Answer
list_runs w list lent =
    cond (eqb (list_check w list).number 0)
    (write_runs (listed w (route_at list) (route_count list)) lent)
    (outcome (list_check w list) lent)
