-- The counts of a table in good order: each is the plain scan's of the routes held, and they total the address space. RULES, "Addresses
-- per port". Assumes nothing.
use mathlib.Core.Path.{◌≡◌, sym, ap, ◌∙◌}
use Prim.Native.Nat.{ℕ, ◌^◌, ◌<◌}
use native.Mathlib.Omega.{arith}
use native.Mathlib.Nat.{zero-add}
use lib.ListN.{get_or}
use Rattle.bits.specs.Bits.{bits}
use Rattle.trie.specs.Scan.{scan}
use Rattle.lists.proofs.Numbered.{get_d_list_of}
use Rattle.routes.specs.Scan.{scan_of}
use Rattle.routes.proofs.Scan.{scan_le}
use Rattle.runs_rules.specs.TableRuns.{table_routes}
use Rattle.runs_rules.proofs.TableRuns.{scan_is, routes_valid}
use Rattle.count_rules.specs.Tally.{ports, addresses, tally}
use Rattle.count_rules.specs.Theorems.{CountIs, TotalIs}
use Rattle.count_rules.proofs.Tally.{addresses_same, total_tally}

pub tally_at : (f : ℕ → ℕ) (k port : ℕ) → port < ports → get_or (tally f k) port 0 ≡ addresses f port k
tally_at f k port h =
    get_d_list_of (λ p. addresses f p k) ports 0 port 0 h ∙ ap (λ (p : ℕ). addresses f p k) (zero-add port)

pub count_is : CountIs
count_is w capacity M n S good small port h =
    tally_at (scan_of w (table_routes w M n) n) (2 ^ w) port h
    ∙ addresses_same (scan_of w (table_routes w M n) n) (λ a. scan S (bits w a)) port (2 ^ w) (λ a l. sym (scan_is w capacity M n S good small a l))

pub total_is : TotalIs
total_is w capacity M n S good small =
    total_tally (scan_of w (table_routes w M n) n) (2 ^ w)
    (λ a h. omega (arith, scan_le w (table_routes w M n) n (routes_valid w capacity M n S good small) a))
