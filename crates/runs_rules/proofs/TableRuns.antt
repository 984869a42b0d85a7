-- The listing of a table is that of the routes that it holds: RULES, "The run listing". Assumes nothing.
use mathlib.Core.Path.{◌≡◌, refl, sym, ap, ◌∙◌}
use mathlib.Core.Bool.{true}
use mathlib.Core.List.{List}
use Prim.Native.Nat.{ℕ, ◌/◌, ◌^◌, ◌≤◌, ◌<◌}
use native.Mathlib.Omega.{arith}
use lib.ListN.{length}
use borrow.Author.Tests.{le-leb}
use Rattle.bits.specs.Bits.{bits}
use Rattle.trie.specs.Routes.{Routes}
use Rattle.trie.specs.Scan.{scan}
use Rattle.refusals.specs.declared.found.Found.{Found}
use Rattle.routes.specs.Bounds.{most_routes}
use Rattle.routes.specs.Routes.{ValidList}
use Rattle.routes.specs.Scan.{scan_of}
use Rattle.table_rules.specs.Rows.{Mem}
use Rattle.table_rules.specs.Holds.{GoodFor}
use Rattle.table_rules.specs.Check.{is_good}
use Rattle.table_rules.proofs.Good.{check_is_good}
use Rattle.table_rules.proofs.Save.{saved_is}
use Rattle.table_rules.proofs.SavedLookup.{lookup_is_saved_scan}
use Rattle.table_rules.proofs.Lookup.{lookup_is_scan}
use Rattle.runs_rules.specs.Runs.{Run, Lists, run_size}
use Rattle.runs_rules.specs.Listing.{listed, write_runs}
use Rattle.runs_rules.specs.TableRuns.{table_routes, table_runs}
use Rattle.runs_rules.specs.Theorems.{TableFew, TableRunsDone, TableRunsRefused}
use Rattle.runs_rules.proofs.Runs.{listing_unique}
use Rattle.runs_rules.proofs.Listing.{listed_lists, never_too_many}
use Rattle.runs_rules.proofs.Same.{lists_same}

pub table_runs_refused : TableRunsRefused
unfolding table_runs
table_runs_refused w capacity M n lent wrong = rw wrong

-- a table in good order for a set: its routes in list order are scanned as the set is
module _ (w capacity : ℕ) (M : Mem) (n : ℕ) (S : Routes) (good : GoodFor w capacity M n S) (small : capacity ≤ most_routes) where
  accepted_good : is_good w capacity M n ≡ true
  accepted_good = (check_is_good w capacity M n).1 (S, good)

  -- both are the port that the lookup answers
  pub scan_is : (x : ℕ) → x < 2 ^ w → scan S (bits w x) ≡ scan_of w (table_routes w M n) n x
  scan_is x h =
      sym (ap (λ (f : Found). f.port) (lookup_is_scan w capacity M n x S good h))
      ∙ (lookup_is_saved_scan w capacity M n x accepted_good (omega (arith, good.few)) h).port

  pub routes_valid : ValidList w (table_routes w M n) n
  routes_valid = (saved_is w capacity M n S good (omega (arith, good.few))).list

  -- any listing of the routes that it holds is what is listed of it
  module _ (rs : List Run) (lists : Lists (λ a. scan S (bits w a)) (2 ^ w) 0 rs) where
    is_listed : rs ≡ listed w (table_routes w M n) n
    is_listed =
        listing_unique (scan_of w (table_routes w M n) n) (2 ^ w) rs (listed w (table_routes w M n) n)
        (lists_same (λ x. scan S (bits w x)) (scan_of w (table_routes w M n) n) (2 ^ w) 0 rs scan_is lists)
        (listed_lists w (table_routes w M n) n)

pub table_few : TableFew
table_few w capacity M n S rs good small lists =
    rw (is_listed w capacity M n S good small rs lists)
    (never_too_many w (table_routes w M n) n (routes_valid w capacity M n S good small))

pub table_runs_done : TableRunsDone
unfolding table_runs write_runs
table_runs_done w capacity M n S lent rs good small lists room =
    rw (accepted_good w capacity M n S good small)
    (ap (λ (qs : List Run). write_runs qs lent) (sym (is_listed w capacity M n S good small rs lists))
    ∙ rw (le-leb (length rs) (length lent / run_size) (omega (arith, room))) refl)
