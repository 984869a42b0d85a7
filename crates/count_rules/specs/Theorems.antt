-- States what this layer is there for: RULES, "Addresses per port". Proofs are in proofs/. Assumes nothing.
use Rattle.std.specs.Prelude.{◌≡◌, List, ℕ, ◌^◌, ◌≤◌, ◌<◌, length, get_or, take}
use Rattle.bits.specs.Bits.{bits}
use Rattle.trie.specs.Routes.{Routes}
use Rattle.trie.specs.Scan.{scan}
use Rattle.refusals.specs.Refusals.{no_room}
use Rattle.routes.specs.Bounds.{most_routes}
use Rattle.table_rules.specs.Rows.{Layout, Mem}
use Rattle.table_rules.specs.Holds.{GoodFor}
use Rattle.table_update.specs.Calls.{keeping}
use Rattle.table_update.specs.History.{Table}
use Rattle.runs_rules.specs.Runs.{Run, Lists}
use Rattle.message_calls.specs.History.{Event, outcome_on, ran_events}
use Rattle.count_rules.specs.Tally.{ports, addresses, table_counts, total, in_runs}
use Rattle.count_rules.specs.Counted.{Counted, counted, counts_of, make_counts, counted_on}
use Rattle.count_rules.specs.History.{Book, AllEventsFit, counted_in, ran_counted}

-- "The count of a port is the number of addresses that the plain scan sends to it", of just the routes that a table in good order holds
abbrev pub CountIs : Type 0
CountIs =
    (w capacity : ℕ) (M : Mem) (n : ℕ) (S : Routes) → GoodFor w capacity M n S → capacity ≤ most_routes → (port : ℕ) → port < ports
    → get_or (table_counts w M n) port 0 ≡ addresses (λ a. scan S (bits w a)) port (2 ^ w)

-- "so all counts total 4,294,967,296"
abbrev pub TotalIs : Type 0
TotalIs =
    (w capacity : ℕ) (M : Mem) (n : ℕ) (S : Routes) → GoodFor w capacity M n S → capacity ≤ most_routes → total (table_counts w M n) ≡ 2 ^ w

-- by any listing: the addresses of a port's runs
abbrev pub RunsTally : Type 0
RunsTally = (f : ℕ → ℕ) (k : ℕ) (rs : List Run) → Lists f k 0 rs → (port : ℕ) → in_runs port rs ≡ addresses f port k

-- the first 4,095 counts are the table's
abbrev pub InStep : Layout (List ℕ) → ℕ → Book → Type 0
InStep L w b = take ports b.counts ≡ counts_of L w b.table.words b.table.count

-- "9 where fewer than 4,095 counts are lent, before all others"
abbrev pub RoomFirst : Layout (List ℕ) → ℕ → Type 0
RoomFirst L w =
    (words : List ℕ) (n : ℕ) (counts : List ℕ) (e : Event) → length counts < ports
    → counted_on L w words n counts e ≡ counted (keeping no_room n) words counts

-- a refused update leaves rows, n and counts
pub record AsBefore (words : List ℕ) (n : ℕ) (counts : List ℕ) (o : Counted) : Type 0 where
  pub rows_are : o.rows ≡ words
  pub n_is : o.answer.count ≡ n
  pub counts_are : o.counts ≡ counts

abbrev pub RefusedKeeps : Layout (List ℕ) → ℕ → Type 0
RefusedKeeps L w =
    (words : List ℕ) (n : ℕ) (counts : List ℕ) (e : Event) → ((counted_on L w words n counts e).answer.number ≡ 0 → ⊥)
    → AsBefore words n counts (counted_on L w words n counts e)

-- "only those of ports that gained or lost addresses": a count is as it was where its port gets as many addresses as before, and so is
-- everything past the first 4,095
pub record Rewrites (L : Layout (List ℕ)) (w : ℕ) (words : List ℕ) (n : ℕ) (counts : List ℕ) (o : Counted) : Type 0 where
  pub only :
      (port : ℕ) → port < ports → get_or (counts_of L w words n) port 0 ≡ get_or (counts_of L w o.rows o.answer.count) port 0
      → get_or o.counts port 0 ≡ get_or counts port 0
  pub past : (i : ℕ) → ports ≤ i → get_or o.counts i 0 ≡ get_or counts i 0

abbrev pub OnlyChanged : Layout (List ℕ) → ℕ → Type 0
OnlyChanged L w =
    (words : List ℕ) (n : ℕ) (counts : List ℕ) (e : Event) → Rewrites L w words n counts (counted_on L w words n counts e)

-- with counts that are in step an update is refused and accepted as it is without counts, and leaves the same rows and n: 11 never
-- arises for the counts
abbrev pub InStepIsPlain : Layout (List ℕ) → ℕ → Type 0
InStepIsPlain L w =
    (b : Book) (S : Routes) (e : Event) → ports ≤ length b.counts → InStep L w b
    → GoodFor w (L.room b.table.words) (L.get b.table.words) b.table.count S
    → ((counted_in L w b e).answer ≡ (outcome_on L w b.table.words b.table.count e).answer)
    × ((counted_in L w b e).rows ≡ (outcome_on L w b.table.words b.table.count e).lent)

-- "after any history that starts from counts made afresh and lends them, as last left, to every update": the counts are the table's, they
-- total 2^w, what lay past them is as it was, and the table is the one that the same calls leave without counts
pub record Kept (L : Layout (List ℕ)) (w : ℕ) (t : Table) (lent : List ℕ) (es : List Event) (b : Book) : Type 0 where
  pub in_step : InStep L w b
  pub totals : total (take ports b.counts) ≡ 2 ^ w
  pub size : length b.counts ≡ length lent
  pub past : (i : ℕ) → ports ≤ i → get_or b.counts i 0 ≡ get_or lent i 0
  pub as_plain : b.table ≡ ran_events L w t es

abbrev pub CountedHistoryIs : Layout (List ℕ) → ℕ → Type 0
CountedHistoryIs L w =
    (t : Table) (lent : List ℕ) (es : List Event) → AllEventsFit w es → (make_counts L w t.words t.count lent).answer.number ≡ 0
    → Kept L w t lent es
    (ran_counted L w (record { table = t; counts = (make_counts L w t.words t.count lent).lent }) es)
