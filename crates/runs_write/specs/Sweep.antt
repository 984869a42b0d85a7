-- Defines what the sweep over the addresses reads and how it goes on: where a route begins, the open routes on the stack, and
-- the open run. RULES, "The run listing". Assumes nothing.
use Rattle.std.specs.Prelude.{Bool, cond, ◌||◌, List, ℕ, zero, suc, ◌+◌, ◌-◌, ◌*◌, ◌^◌, eqb, leb, ltb, get_or}
use Rattle.promise.specs.Over.{store_three}
use Rattle.bits.specs.Prefix.{first}
use Rattle.routes.specs.declared.Route.{Route}
use Rattle.runs_rules.specs.Runs.{run_size}
use Rattle.runs_write.specs.declared.sweep.OpenRoute.{OpenRoute}
use Rattle.runs_write.specs.declared.sweep.OpenRun.{OpenRun}

-- where route i begins; past the n routes, the last of all addresses
unfoldable pub start_of : ℕ → (ℕ → Route) → ℕ → ℕ → ℕ
start_of w R n i = cond (ltb i n) (first w (R i).value (R i).len) (2 ^ w - 1)

abbrev pub open_route : ℕ → ℕ → OpenRoute
open_route end port = record { end = end; port = port }

abbrev pub open_at : List OpenRoute → ℕ → OpenRoute
open_at stack d = get_or stack d (open_route 0 0)

-- the port that the open routes on the stack give an address: innermost first, and none below the first
unfoldable pub look : List OpenRoute → ℕ → ℕ → ℕ
look stack zero a = 0
look stack (suc d) a = cond (leb a (open_at stack (suc d)).end) (open_at stack (suc d)).port (look stack d a)

abbrev pub open_run : ℕ → ℕ → ℕ → ℕ → OpenRun
open_run first next port count = record { first = first; next = next; port = port; count = count }

-- the open run goes on with a port: it has no address yet, or has that port
abbrev pub stays : OpenRun → ℕ → Bool
stays run port = eqb run.next 0 || eqb port run.port

-- the run that is open once the next address goes to a port
unfoldable pub turned : OpenRun → ℕ → OpenRun
turned run port =
    cond (stays run port)
    (open_run run.first run.next port run.count)
    (open_run run.next run.next port (run.count + 1))

-- what is then in the lent memory: the run that has ended, where it is to be written
unfoldable pub turned_left : Bool → List ℕ → OpenRun → ℕ → List ℕ
turned_left write lent run port =
    cond (stays run port)
    lent
    (cond write (store_three lent (run.count * run_size) run.first (run.next - 1) run.port) lent)

-- the open run once all addresses before `to` that it does not have go to a port
unfoldable pub gone_on : OpenRun → ℕ → ℕ → OpenRun
gone_on run to port =
    cond (leb to run.next) run (open_run (turned run port).first to port (turned run port).count)

-- what is then in the lent memory
unfoldable pub gone_on_left : Bool → List ℕ → OpenRun → ℕ → ℕ → List ℕ
gone_on_left write lent run to port = cond (leb to run.next) lent (turned_left write lent run port)
