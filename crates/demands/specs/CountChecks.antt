-- Defines the checks of the calls with counts, in their order: RULES, "Addresses per port" and "Order of the checks". Assumes nothing.
use Rattle.std.specs.Prelude.{◌≡◌, List, ℕ, ◌^◌, ◌<◌, ◌≤◌, length, get_or}
use Rattle.bits.specs.Bits.{bits}
use Rattle.trie.specs.Routes.{Routes}
use Rattle.trie.specs.Scan.{scan}
use Rattle.refusals.specs.Refusals.{wrong_port, no_room, not_held, not_in_order}
use Rattle.table_rows.specs.Words.{capacity, row_at}
use Rattle.table_rules.specs.Holds.{GoodFor}
use Rattle.table_update.specs.History.{announcing, withdrawing}
use Rattle.message_calls.specs.History.{Event, single, message}
use Rattle.count_rules.specs.Tally.{ports, addresses}
use Rattle.demands.specs.Lamp.{Verdict, done, refuse}
use Rattle.demands.specs.Checks.{NoPort, NotHeld, prefix_checks, route_checks, order_checks}
use Rattle.demands.specs.MessageChecks.{message_checks, TooMany}

-- "9 where fewer than 4,095 counts are lent, before all others"
abbrev pub count_room : List ℕ → Verdict → Verdict
count_room counts rest = refuse no_room 0 (length counts < ports) rest

-- "the lent counts are not those of the table": one is not the number of addresses that the plain scan of the routes held sends to its port
abbrev pub StaleCounts : ℕ → List ℕ → ℕ → List ℕ → Type 0
StaleCounts w rows n counts =
    (S : Routes) → GoodFor w (capacity rows) (row_at rows) n S
    → (port : ℕ) × (port < ports) × (get_or counts port 0 ≡ addresses (λ a. scan S (bits w a)) port (2 ^ w) → ⊥)

-- "11 in an update also where" they are not
abbrev pub step_checks : ℕ → List ℕ → ℕ → List ℕ → Verdict → Verdict
step_checks w rows n counts rest = order_checks w rows n (refuse not_in_order 0 (StaleCounts w rows n counts) rest)

abbrev pub make_checks : ℕ → List ℕ → ℕ → List ℕ → Verdict
make_checks w rows n counts = count_room counts (order_checks w rows n done)

-- an announcement: 4, 5, 6 on the arguments, 11, then 9, "a new prefix at full capacity"; a withdrawal: 4, 5, 11, then 10; a message: its own
-- refusals, 6, 11, then 9
abbrev pub after_room : ℕ → List ℕ → ℕ → List ℕ → Event → Verdict
after_room w rows n counts (single (announcing q)) =
    route_checks w 0 q
    (step_checks w rows n counts (refuse no_room 0 (NotHeld w rows n q.value q.len × (capacity rows ≤ n)) done))
after_room w rows n counts (single (withdrawing value len)) =
    prefix_checks w 0 value len (step_checks w rows n counts (refuse not_held 0 (NotHeld w rows n value len) done))
after_room w rows n counts (message bytes port) =
    message_checks w bytes
    (refuse wrong_port 0 (NoPort port) (step_checks w rows n counts (refuse no_room 0 (TooMany w bytes port rows n) done)))

abbrev pub update_checks : ℕ → List ℕ → ℕ → List ℕ → Event → Verdict
update_checks w rows n counts e = count_room counts (after_room w rows n counts e)
