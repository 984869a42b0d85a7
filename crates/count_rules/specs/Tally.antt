-- Defines how many addresses each port gets: RULES, "Addresses per port". Assumes nothing.
use Rattle.std.specs.Prelude.{Bool, cond, not, List, [], ◌∷◌, ℕ, ◌+◌, ◌-◌, ◌^◌, eqb, get_or}
use Rattle.lists.specs.Numbered.{list_of}
use Rattle.lists.specs.Below.{some_below, number_below}
use Rattle.routes.specs.Scan.{scan_of}
use Rattle.routes.specs.declared.Route.{Route}
use Rattle.table_rules.specs.Rows.{Mem}
use Rattle.runs_rules.specs.Runs.{Run}
use Rattle.runs_rules.specs.TableRuns.{table_routes}

-- "for each port 0..4094"
abbrev pub ports : ℕ
ports = 4095

-- "the number of addresses": of the first k, those that f sends to a port
abbrev pub addresses : (ℕ → ℕ) → ℕ → ℕ → ℕ
addresses f port k = number_below (λ a. eqb (f a) port) k

-- these numbers, from port 0 on
abbrev pub tally : (ℕ → ℕ) → ℕ → List ℕ
tally f k = list_of (λ port. addresses f port k) ports 0

-- "The count of a port is the number of addresses that the plain scan sends to it": of n routes
abbrev pub port_counts : ℕ → (ℕ → Route) → ℕ → List ℕ
port_counts w R n = tally (scan_of w R n) (2 ^ w)

-- of the routes that a table holds
abbrev pub table_counts : ℕ → Mem → ℕ → List ℕ
table_counts w M n = port_counts w (table_routes w M n) n

-- "all counts total 4,294,967,296"
abbrev pub total : List ℕ → ℕ
total [] = 0
total (c ∷ cs) = c + total cs

-- one of the first 4,095 counts is not the same
abbrev pub differ : List ℕ → List ℕ → Bool
differ counts fresh = some_below (λ port. not (eqb (get_or counts port 0) (get_or fresh port 0))) ports

-- how many addresses the runs of a port have
abbrev pub in_runs : ℕ → List Run → ℕ
in_runs port [] = 0
in_runs port (r ∷ rs) = cond (eqb r.port port) (r.last - r.first + 1) 0 + in_runs port rs
