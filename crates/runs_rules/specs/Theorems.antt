-- States what this layer is there for: RULES, "The run listing". Proofs are in proofs/. Assumes nothing.
use Rattle.std.specs.Prelude.{◌≡◌, false, List, [], ◌∷◌, ℕ, ◌+◌, ◌-◌, ◌*◌, ◌^◌, ◌≤◌, ◌<◌, length}
use Rattle.promise.specs.Over.{over, outcome}
use Rattle.bits.specs.Bits.{bits}
use Rattle.trie.specs.Routes.{Routes}
use Rattle.trie.specs.Scan.{scan}
use Rattle.refusals.specs.Refusals.{no_room, not_in_order, refused, accepted}
use Rattle.routes.specs.Bounds.{most_routes}
use Rattle.routes.specs.Routes.{route_at, route_count, ValidList}
use Rattle.routes.specs.Check.{list_check}
use Rattle.routes.specs.Scan.{scan_of}
use Rattle.routes.specs.declared.Route.{Route}
use Rattle.table_rules.specs.Rows.{Mem}
use Rattle.table_rules.specs.Holds.{GoodFor}
use Rattle.table_rules.specs.Check.{is_good}
use Rattle.runs_rules.specs.Runs.{Run, run, Lists, runs, run_size, run_words}
use Rattle.runs_rules.specs.Boundaries.{boundary_runs}
use Rattle.runs_rules.specs.Listing.{listed, list_runs}
use Rattle.runs_rules.specs.TableRuns.{table_runs}

-- no port of an address has two listings
abbrev pub ListingUnique : Type 0
ListingUnique = (f : ℕ → ℕ) (n : ℕ) (rs qs : List Run) → Lists f n 0 rs → Lists f n 0 qs → rs ≡ qs

-- each has one, and going address by address gives it
abbrev pub ListingExists : Type 0
ListingExists = (f : ℕ → ℕ) (n : ℕ) → 0 < n → Lists f n 0 (runs f n)

-- what is listed of routes is the listing of their plain scan
abbrev pub ListedLists : Type 0
ListedLists = (w : ℕ) (R : ℕ → Route) (n : ℕ) → Lists (scan_of w R n) (2 ^ w) 0 (listed w R n)

-- "n routes have at most 2n+1 runs"
abbrev pub ListedFew : Type 0
ListedFew = (w : ℕ) (R : ℕ → Route) (n : ℕ) → length (listed w R n) ≤ 2 * n + 1

-- as many runs as 4,096 routes can have
abbrev pub most_runs : ℕ
most_runs = 8193

-- so a valid list has no more than these, and no refusal is needed for more: there is no 13
abbrev pub NeverTooMany : Type 0
NeverTooMany = (w : ℕ) (R : ℕ → Route) (n : ℕ) → ValidList w R n → length (listed w R n) ≤ most_runs

-- "none have one run, all addresses to port 0"
abbrev pub ListedNone : Type 0
ListedNone = (w : ℕ) (R : ℕ → Route) → listed w R 0 ≡ run 0 (2 ^ w - 1) 0 ∷ []

-- going by the boundaries of the routes gives the same
abbrev pub ListedBoundaries : Type 0
ListedBoundaries = (w : ℕ) (R : ℕ → Route) (n : ℕ) → listed w R n ≡ boundary_runs w R n

-- a valid list with room for its runs: the words of THE listing of its plain scan, what lay past them, and how many runs
abbrev pub ListRunsDone : Type 0
ListRunsDone =
    (w : ℕ) (list lent : List ℕ) (rs : List Run) → (list_check w list).number ≡ 0
    → Lists (scan_of w (route_at list) (route_count list)) (2 ^ w) 0 rs → length rs * run_size ≤ length lent
    → list_runs w list lent ≡ outcome (accepted (length rs)) (over (run_words rs) lent)

-- 9: "the memory lent is too short for what is to be written"
abbrev pub ListRunsShort : Type 0
ListRunsShort =
    (w : ℕ) (list lent : List ℕ) (rs : List Run) → (list_check w list).number ≡ 0
    → Lists (scan_of w (route_at list) (route_count list)) (2 ^ w) 0 rs → length lent < length rs * run_size
    → list_runs w list lent ≡ outcome (refused no_room 0) lent

-- a list that is refused is refused as its check does, and no lent memory is written
abbrev pub ListRunsRefused : Type 0
ListRunsRefused =
    (w : ℕ) (list lent : List ℕ) → ((list_check w list).number ≡ 0 → ⊥) → list_runs w list lent ≡ outcome (list_check w list) lent

-- a table in good order has no more runs than 4,096 routes can have, so no refusal is needed for more: there is no 13
abbrev pub TableFew : Type 0
TableFew =
    (w capacity : ℕ) (M : Mem) (n : ℕ) (S : Routes) (rs : List Run) → GoodFor w capacity M n S → capacity ≤ most_routes
    → Lists (λ a. scan S (bits w a)) (2 ^ w) 0 rs → length rs ≤ most_runs

-- a table in good order with room for its runs: the words of THE listing of the plain scan of just the routes it holds, what
-- lay past them, and how many runs
abbrev pub TableRunsDone : Type 0
TableRunsDone =
    (w capacity : ℕ) (M : Mem) (n : ℕ) (S : Routes) (lent : List ℕ) (rs : List Run) → GoodFor w capacity M n S → capacity ≤ most_routes
    → Lists (λ a. scan S (bits w a)) (2 ^ w) 0 rs → length rs * run_size ≤ length lent
    → table_runs w capacity M n lent ≡ outcome (accepted (length rs)) (over (run_words rs) lent)

-- 11: "the table is not in good order", and no lent memory is written
abbrev pub TableRunsRefused : Type 0
TableRunsRefused =
    (w capacity : ℕ) (M : Mem) (n : ℕ) (lent : List ℕ) → is_good w capacity M n ≡ false
    → table_runs w capacity M n lent ≡ outcome (refused not_in_order 0) lent
