-- States what this layer is there for: RULES, "Announce", "Withdraw", and demand 3. Proofs are in proofs/. Assumes nothing.
use Rattle.std.specs.Prelude.{◌≡◌, false, cond, List, map, ℕ, ◌+◌, ◌^◌, ◌<◌, ◌≤◌}
use Rattle.promise.specs.Over.{Outcome, outcome}
use Rattle.trie.specs.Routes.{Routes, upd, held}
use Rattle.refusals.specs.Refusals.{accepted}
use Rattle.refusals.specs.declared.Answer.{Answer}
use Rattle.routes.specs.Routes.{route_at, route_count, bit_route, ValidList, Words}
use Rattle.lists.specs.Numbered.{list_of}
use Rattle.routes.specs.Scan.{scan_of}
use Rattle.routes.specs.declared.Route.{Route}
use Rattle.table_rules.specs.Rows.{Layout}
use Rattle.table_rules.specs.Holds.{GoodFor}
use Rattle.table_rules.specs.Lookup.{lookup_in}
use Rattle.refusals.specs.declared.found.Found.{Found}
use Rattle.table_update.specs.Calls.{announce_into, built_from, build_into}
use Rattle.table_update.specs.History.{Call, Table, after, is_accepted, ran, call_prefix, call_port, port_after, Fits, AllFit, AllAccepted, announcements}

-- one call on a table in good order for S: accepted, it is in good order for the changed set; refused, nothing has changed
abbrev pub CallIs : Layout (List ℕ) → ℕ → Type 0
CallIs L w =
    (t : Table) (S : Routes) (c : Call) → Fits w c → GoodFor w (L.room t.words) (L.get t.words) t.count S
    → GoodFor w (L.room (after L w t c).words) (L.get (after L w t c).words) (after L w t c).count
    (cond (is_accepted L w t c) (upd S (call_prefix w c) (call_port c)) S)

-- a refused call leaves every word and the count as they were
abbrev pub RefusedKeeps : Layout (List ℕ) → ℕ → Type 0
RefusedKeeps L w = (t : Table) (c : Call) → is_accepted L w t c ≡ false → after L w t c ≡ t

-- DEMAND 3. "From an empty table, after any sequence of announcements and withdrawals, some refused, the routes held are for each
-- prefix those of its last accepted call if that was an announcement", in any rows, and in good order throughout
abbrev pub HistoryIs : Layout (List ℕ) → ℕ → Type 0
HistoryIs L w =
    (words : List ℕ) (calls : List Call) → AllFit w calls
    → let t : Table = record { words = words; count = 0 } in
    GoodFor w (L.room (ran L w t calls).words) (L.get (ran L w t calls).words) (ran L w t calls).count
    (λ q. port_after L w t calls q 0)

-- a table built from a valid list is in good order for the routes of the list
abbrev pub BuiltIs : Layout (List ℕ) → ℕ → Type 0
BuiltIs L w =
    (R : ℕ → Route) (words : List ℕ) (n : ℕ) → ValidList w R n → n ≤ L.room words
    → let built : List ℕ = built_from L w R n 0 words in
    GoodFor w (L.room built) (L.get built) n (held (map (bit_route w) (list_of R n 0)))

-- DEMAND 2, of the table: its lookup gives each address the plain scan's port of the list that it was built from
abbrev pub BuiltLookupIsScan : Layout (List ℕ) → ℕ → Type 0
BuiltLookupIsScan L w =
    (R : ℕ → Route) (words : List ℕ) (n a : ℕ) → ValidList w R n → n ≤ L.room words → a < 2 ^ w
    → let built : List ℕ = built_from L w R n 0 words in
    let r : Found = lookup_in w (L.room built) (L.get built) n a in
    (r.number ≡ 0) × (r.port ≡ scan_of w R n a)

-- "Building a table from a list gives what announcing its routes in list order into an empty table gives": each is accepted
abbrev pub BuildIsAnnouncing : Layout (List ℕ) → ℕ → Type 0
BuildIsAnnouncing L w =
    (R : ℕ → Route) (words : List ℕ) (n i : ℕ) → ValidList w R n → n ≤ L.room words → i < n
    → announce_into L w (built_from L w R i 0 words) i (R i)
    ≡ outcome (accepted (i + 1)) (built_from L w R (i + 1) 0 words)

-- what calls leave from the empty table on, where each of them is accepted
pub record LeftBy (L : Layout (List ℕ)) (w : ℕ) (words : List ℕ) (calls : List Call) (lent : List ℕ) (n : ℕ) : Type 0 where
  pub each : AllAccepted L w (record { words = words; count = 0 }) calls
  pub left : ran L w (record { words = words; count = 0 }) calls ≡ record { words = lent; count = n }

-- the same as a history: the calls that announce the routes in list order leave the words built, and their number
abbrev pub BuildIsHistory : Layout (List ℕ) → ℕ → Type 0
BuildIsHistory L w =
    (R : ℕ → Route) (words : List ℕ) (n : ℕ) → ValidList w R n → n ≤ L.room words
    → LeftBy L w words (announcements R n) (built_from L w R n 0 words) n

-- an accepted build leaves what that history leaves, and answers its n
abbrev pub AcceptedBuildIsHistory : Layout (List ℕ) → ℕ → Type 0
AcceptedBuildIsHistory L w =
    (list words : List ℕ) → Words w list
    → let built : Outcome Answer = build_into L w list words in
    built.answer.number ≡ 0 → LeftBy L w words (announcements (route_at list) (route_count list)) built.lent built.answer.count
