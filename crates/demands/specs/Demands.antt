-- States the three demands, of any boundary at 32 bits. Proofs are in proofs/. Assumes nothing.
use Rattle.std.specs.Prelude.{◌≡◌, ◌⊎◌, cond, List, [], ◌∷◌, ℕ, ◌+◌, ◌*◌, ◌/◌, ◌^◌, ◌≤◌, ◌<◌, leb, length, get_or, take, drop}
use Rattle.promise.specs.Over.{Outcome, outcome, over}
use Rattle.lists.specs.Numbered.{list_of}
use Rattle.bits.specs.Bits.{bits}
use Rattle.trie.specs.Routes.{Routes}
use Rattle.trie.specs.Scan.{scan}
use Rattle.trie.specs.Trie.{Trie, IsTrie, reads}
use Rattle.refusals.specs.Refusals.{accepted, found}
use Rattle.refusals.specs.Reply.{Reply, counted, looked, replied}
use Rattle.routes.specs.Routes.{route_at, route_count, words_of, Words}
use Rattle.routes.specs.Scan.{scan_of}
use Rattle.routes.specs.declared.Route.{Route}
use Rattle.octets.specs.Bytes.{Bytes}
use Rattle.file_rules.specs.Cleared.{cleared_file, SpareZero}
use Rattle.table_rows.specs.Words.{capacity, row_at}
use Rattle.table_rules.specs.Holds.{GoodFor}
use Rattle.table_rules.specs.RowsRead.{RowsRead}
use Rattle.table_rules.specs.Theorems.{SavedWell}
use Rattle.table_update.specs.History.{Table}
use Rattle.image_rules.specs.Image.{passed}
use Rattle.image_rules.specs.NodesRead.{ReadsAndNumber}
use Rattle.image_build.specs.Build.{list_routes}
use Rattle.runs_rules.specs.Runs.{Run, run_words}
use Rattle.runs_rules.specs.Maximal.{NamesMaximal}
use Rattle.segment_rules.specs.Tables.{plain_pointer}
use Rattle.segment_rules.specs.Theorems.{reads_of, segment_part}
use Rattle.segment_rules.specs.Build.{Stores}
use Rattle.message_calls.specs.History.{Event, EventFits}
use Rattle.count_rules.specs.Tally.{ports, addresses, total}
use Rattle.maftehon.specs.Reply.{Imaged, Segmented, Booked}
use Rattle.demands.specs.Lamp.{done, Lamp}
use Rattle.demands.specs.Refused.{Refuses, RefusesWhole, RefusesBook}
use Rattle.demands.specs.Checks.{list_checks, read_checks, write_checks, order_checks, build_checks, save_checks, lookup_checks, image_checks, image_lookup_checks, list_runs_checks, table_runs_checks}
use Rattle.demands.specs.SegmentChecks.{segment_checks, SixteenBits, segment_lookup_checks, segment_reads, entries_stand}
use Rattle.demands.specs.ManyChecks.{many_checks, image_many_checks, EachElement}
use Rattle.demands.specs.MessageChecks.{withdrawal_checks}
use Rattle.demands.specs.CountChecks.{make_checks, update_checks}
use Rattle.demands.specs.Boundary.{Boundary, place, result, read_count}
use Rattle.demands.specs.History.{Step, Happened, LentOn, empty_table, at_end, counts_at_end, port_since, held_by}

-- DEMAND 1. "Every call ends, on whatever route file, list, table or image it is lent, and checks all of it that it uses. A refusal
-- carries a number and a place from the published list, is given exactly in the listed case, and writes nothing." For every call of
-- the boundary, every word and byte that it may be lent, and every outcome that it may have.
pub record Demand1 (B : Boundary) : Type 0 where
  pub file-read :
      (file list : List ℕ) (o : Outcome Reply) → B.file-read file list o → RefusesWhole (read_checks 32 file list) (0 ∷ []) list o
  pub file-write :
      (list file : List ℕ) (o : Outcome Reply) → B.file-write list file o → RefusesWhole (write_checks 32 list file) (0 ∷ []) file o
  pub list-check : (list : List ℕ) (x : Reply) → B.list-check list x → Refuses (list_checks 32 list done) [] x
  pub list-scan : (list : List ℕ) (a : ℕ) (x : Reply) → B.list-scan list a x → Refuses (list_checks 32 list done) (0 ∷ []) x
  pub list-runs :
      (list runs : List ℕ) (o : Outcome Reply) → B.list-runs list runs o → RefusesWhole (list_runs_checks 32 list runs) (0 ∷ []) runs o
  pub table-check : (rows : List ℕ) (n : ℕ) (x : Reply) → B.table-check rows n x → Refuses (order_checks 32 rows n done) [] x
  pub table-lookup :
      (rows : List ℕ) (n a : ℕ) (x : Reply) → B.table-lookup rows n a x → Refuses (lookup_checks 32 rows n a) (0 ∷ read_count x ∷ []) x
  -- "for a lookup the rows ... read so far"
  pub table_reads :
      (rows : List ℕ) (n a : ℕ) (x : Reply) → B.table-lookup rows n a x
      → (0 < n → n ≤ capacity rows → RowsRead 32 (row_at rows) n a (read_count x) x.number)
      × ((n ≡ 0) ⊎ (capacity rows < n) → read_count x ≡ 0)
  pub table-build :
      (list rows : List ℕ) (o : Outcome Reply) → B.table-build list rows o → RefusesWhole (build_checks 32 list rows) (0 ∷ []) rows o
  pub table-save :
      (rows : List ℕ) (n : ℕ) (list : List ℕ) (o : Outcome Reply) → B.table-save rows n list o
      → RefusesWhole (save_checks 32 rows n list) (0 ∷ []) list o
  pub table-runs :
      (rows : List ℕ) (n : ℕ) (runs : List ℕ) (o : Outcome Reply) → B.table-runs rows n runs o
      → RefusesWhole (table_runs_checks 32 rows n runs) (0 ∷ []) runs o
  pub image-build :
      (s : ℕ) (list nodes ports : List ℕ) (x : Imaged) → B.image-build s list nodes ports x
      → Lamp (image_checks 32 s list nodes ports) x.reply.number (place x.reply)
      ((x.reply.answer ≡ place x.reply ∷ 0 ∷ 0 ∷ []) × (x.nodes ≡ nodes) × (x.ports ≡ ports))
  pub image-lookup :
      (s : ℕ) (nodes ports : List ℕ) (a : ℕ) (x : Reply) → B.image-lookup s nodes ports a x
      → Refuses (image_lookup_checks 32 s nodes ports a) (0 ∷ read_count x ∷ []) x
  -- "or nodes read so far"
  pub image_reads :
      (s : ℕ) (nodes ports : List ℕ) (a : ℕ) (x : Reply) → B.image-lookup s nodes ports a x
      → ReadsAndNumber 32 s nodes ports a (read_count x) x.number
  pub image-lookup-many :
      (s : ℕ) (nodes ports addresses out : List ℕ) (o : Outcome Reply) → B.image-lookup-many s nodes ports addresses out o
      → RefusesWhole (image_many_checks s addresses out) (0 ∷ []) out o
  -- "or 65,535 where that lookup answers 11": done, it left what the single lookups say
  pub image_elements :
      (s : ℕ) (nodes ports addresses out : List ℕ) (o : Outcome Reply) → B.image-lookup-many s nodes ports addresses out o
      → o.answer.number ≡ 0 → EachElement (B.image-lookup s nodes ports) addresses out o
  pub segments-build :
      (list : List ℕ) (lent : Stores) (x : Segmented) → B.segments-build list lent x
      → Lamp (segment_checks list lent) x.reply.number (place x.reply)
      ((x.reply.answer ≡ place x.reply ∷ 0 ∷ 0 ∷ 0 ∷ []) × (x.stores ≡ lent))
  pub segments-lookup :
      (s : Stores) (a : ℕ) (x : Reply) → SixteenBits s → B.segments-lookup s a x
      → Refuses (segment_lookup_checks s a) (0 ∷ read_count x ∷ []) x
  -- "in at most four reads, which it counts"
  pub segments_reads :
      (s : Stores) (a : ℕ) (x : Reply) → B.segments-lookup s a x
      → (read_count x ≤ 4) × (SixteenBits s → segment_reads s a x.number (read_count x))
  pub segments-lookup-many :
      (s : Stores) (addresses out : List ℕ) (o : Outcome Reply) → B.segments-lookup-many s addresses out o
      → RefusesWhole (many_checks addresses out) (0 ∷ []) out o
  pub segments_elements :
      (s : Stores) (addresses out : List ℕ) (o : Outcome Reply) → B.segments-lookup-many s addresses out o
      → o.answer.number ≡ 0 → EachElement (B.segments-lookup s) addresses out o
  -- the debug page's call refuses nothing: "none if the first-table entry given names no segment in its store"
  pub segments-entries :
      (packed plain : List ℕ) (entry : ℕ) (x : Reply) → B.segments-entries packed plain entry x → Refuses done (0 ∷ 0 ∷ []) x
  pub segments_stand :
      (packed plain : List ℕ) (entry : ℕ) (x : Reply) → B.segments-entries packed plain entry x
      → entries_stand packed plain entry (result x) (read_count x)
  pub message-write :
      (list message : List ℕ) (o : Outcome Reply) → B.message-write list message o
      → RefusesWhole (withdrawal_checks 32 list message) (0 ∷ []) message o
  pub counts-make :
      (rows : List ℕ) (n : ℕ) (counts : List ℕ) (o : Outcome Reply) → B.counts-make rows n counts o
      → RefusesWhole (make_checks 32 rows n counts) [] counts o
  pub update :
      (rows : List ℕ) (n : ℕ) (counts : List ℕ) (e : Event) (x : Booked) → EventFits 32 e → B.update rows n counts e x
      → RefusesBook (update_checks 32 rows n counts e) n rows counts x

-- the plain scan's port of each of these addresses
abbrev pub scanned_all : List ℕ → List ℕ → List ℕ
scanned_all list addresses = list_of (λ i. scan_of 32 (route_at list) (route_count list) (get_or addresses i 0)) (length addresses) 0

-- DEMAND 2. "Both tries, built from a valid list, give for each of the 2^32 addresses the port that a plain scan gives (longest match,
-- RFC 4632; 0 if none)." A build that returned 0 had a valid list, by demand 1; the lookup is handed what the build left. Stronger:
-- what else the memory lent holds does not matter, and the nodes read are told too. Of segment tables: "Lookup equals the plain scan, in
-- at most four reads, which it counts", and "a call hands back the entries of a segment".
-- "Reading a written file returns the same routes; writing what was read returns the same bytes" "for files whose spare bits are zero;
-- others come back with them cleared." All of them, and their number.
pub record Demand2 (B : Boundary) : Type 0 where
  pub scanned :
      (list : List ℕ) (a : ℕ) (x : Reply) → B.list-scan list a x → x.number ≡ 0
      → x ≡ counted (accepted (scan_of 32 (route_at list) (route_count list) a))
  pub table :
      (list rows : List ℕ) (b : Outcome Reply) (a : ℕ) (x : Reply) → Words 32 list → a < 2 ^ 32
      → B.table-build list rows b → b.answer.number ≡ 0 → B.table-lookup b.lent (result b.answer) a x
      → (x.number ≡ 0) × (result x ≡ scan_of 32 (route_at list) (route_count list) a)
  pub image :
      (s : ℕ) (list nodes ports : List ℕ) (b : Imaged) (a : ℕ) (x : Reply) → Words 32 list → a < 2 ^ 32
      → B.image-build s list nodes ports b → b.reply.number ≡ 0 → B.image-lookup s b.nodes b.ports a x
      → x ≡ looked (found (scan_of 32 (route_at list) (route_count list) a) (passed (list_routes 32 list) s (32 / s) [] (bits 32 a) + 1))
  pub segments :
      (list : List ℕ) (lent : Stores) (b : Segmented) (a : ℕ) (x : Reply) → Words 32 list → a < 2 ^ 32
      → B.segments-build list lent b → b.reply.number ≡ 0 → B.segments-lookup b.stores a x
      → x ≡ looked (found (scan_of 32 (route_at list) (route_count list) a) (reads_of (route_at list) (route_count list) a))
  -- many lookups in one call: every element is the plain scan's port, and none is 65,535
  pub image_many :
      (s : ℕ) (list nodes ports : List ℕ) (b : Imaged) (xs out : List ℕ) (o : Outcome Reply) → Words 32 list → Words 32 xs
      → length xs ≤ length out → B.image-build s list nodes ports b → b.reply.number ≡ 0
      → B.image-lookup-many s b.nodes b.ports xs out o → o ≡ replied (outcome (accepted 0) (over (scanned_all list xs) out))
  pub segments_many :
      (list : List ℕ) (lent : Stores) (b : Segmented) (xs out : List ℕ) (o : Outcome Reply) → Words 32 list → Words 32 xs
      → length xs ≤ length out → B.segments-build list lent b → b.reply.number ≡ 0
      → B.segments-lookup-many b.stores xs out o → o ≡ replied (outcome (accepted 0) (over (scanned_all list xs) out))
  -- handed the entry of the first sixteen bits i; "out of the plain store or the packed one"
  pub segment_entries :
      (list : List ℕ) (lent : Stores) (b : Segmented) (i : ℕ) (x : Reply) → Words 32 list → i < 2 ^ 16
      → B.segments-build list lent b → b.reply.number ≡ 0
      → let entry : ℕ = get_or b.stores.first i 0 in
      B.segments-entries b.stores.packed b.stores.plain entry x
      → take (read_count x) (drop (result x) (cond (leb plain_pointer entry) b.stores.plain b.stores.packed))
      ≡ segment_part (route_at list) (route_count list) i
  pub read_written :
      (list file lent : List ℕ) (written o : Outcome Reply) → Words 32 list → length list ≤ length lent
      → B.file-write list file written → written.answer.number ≡ 0
      → B.file-read (take (result written.answer) written.lent) lent o
      → o ≡ replied (outcome (accepted (route_count list)) (over list lent))
  pub write_read :
      (file list lent : List ℕ) (got o : Outcome Reply) → Bytes file → length file ≤ length lent
      → B.file-read file list got → got.answer.number ≡ 0
      → B.file-write (take (result got.answer * 3) got.lent) lent o
      → o ≡ replied (outcome (accepted (length file)) (over (cleared_file file (result got.answer)) lent))
  pub write_read_same :
      (file list lent : List ℕ) (got o : Outcome Reply) → Bytes file → length file ≤ length lent
      → B.file-read file list got → got.answer.number ≡ 0 → SpareZero file (result got.answer)
      → B.file-write (take (result got.answer * 3) got.lent) lent o
      → o ≡ replied (outcome (accepted (length file)) (over file lent))

-- the first 4,095 of these counts are the numbers of addresses that the plain scan of a set sends to the ports, they total 2^32, and what
-- follows them is as it was lent
pub record CountsAre (S : Routes) (lent counts : List ℕ) : Type 0 where
  pub each : (port : ℕ) → port < ports → get_or counts port 0 ≡ addresses (λ a. scan S (bits 32 a)) port (2 ^ 32)
  pub totals : total (take ports counts) ≡ 2 ^ 32
  pub size : length counts ≡ length lent
  pub past : (i : ℕ) → ports ≤ i → get_or counts i 0 ≡ get_or lent i 0

-- DEMAND 3. "From an empty table, after any sequence of announcements and withdrawals, some refused, the routes held are for each
-- prefix those of its last accepted call if that was an announcement; the run listing names every maximal run of addresses that
-- goes to one port, once, in order, and nothing else." Given room, port 0 included, and in address order. Stronger: the table is in
-- good order throughout, a lookup on it gives the plain scan's port of the routes held and reads as many rows as the path in their
-- trie has, and a save writes them. So it is whatever counts the updates are lent. "The count of a port is the number of addresses that
-- the plain scan sends to it, so all counts total 4,294,967,296 after any history that starts from counts made afresh and lends them, as
-- last left, to every update."
pub record Demand3 (B : Boundary) : Type 0 where
  pub held :
      (rows : List ℕ) (steps : List Step) → Happened B (empty_table rows) steps
      → let t : Table = at_end (empty_table rows) steps in
      GoodFor 32 (capacity t.words) (row_at t.words) t.count (held_by steps)
  pub looked_up :
      (rows : List ℕ) (steps : List Step) (a : ℕ) (trie : Trie) (x : Reply) → Happened B (empty_table rows) steps → a < 2 ^ 32
      → IsTrie trie (held_by steps)
      → let t : Table = at_end (empty_table rows) steps in
      B.table-lookup t.words t.count a x → x ≡ looked (found (scan (held_by steps) (bits 32 a)) (reads trie (bits 32 a)))
  -- a save writes the one valid list of these routes
  pub saved :
      (rows : List ℕ) (steps : List Step) (lent : List ℕ) (o : Outcome Reply) → Happened B (empty_table rows) steps
      → let t : Table = at_end (empty_table rows) steps in
      t.count * 3 ≤ length lent → B.table-save t.words t.count lent o
      → (rs : List Route) × SavedWell 32 rs t.count (held_by steps)
      × (o ≡ replied (outcome (accepted t.count) (over (words_of rs) lent)))
  pub listed :
      (rows : List ℕ) (steps : List Step) (lent : List ℕ) (rs : List Run) (o : Outcome Reply) → Happened B (empty_table rows) steps
      → NamesMaximal (λ a. scan (held_by steps) (bits 32 a)) (2 ^ 32) rs → length rs * 3 ≤ length lent
      → let t : Table = at_end (empty_table rows) steps in
      B.table-runs t.words t.count lent o → o ≡ replied (outcome (accepted (length rs)) (over (run_words rs) lent))
  pub listed_list :
      (list lent : List ℕ) (rs : List Run) (x : Reply) (o : Outcome Reply) → B.list-check list x → x.number ≡ 0
      → NamesMaximal (scan_of 32 (route_at list) (route_count list)) (2 ^ 32) rs → length rs * 3 ≤ length lent
      → B.list-runs list lent o → o ≡ replied (outcome (accepted (length rs)) (over (run_words rs) lent))
  -- from any table in good order: the counts are those of the routes then held, and what lies past them is as it was
  pub counted :
      (t : Table) (S : Routes) (lent : List ℕ) (made : Outcome Reply) (steps : List Step)
      → GoodFor 32 (capacity t.words) (row_at t.words) t.count S → B.counts-make t.words t.count lent made
      → made.answer.number ≡ 0 → Happened B t steps → LentOn made.lent steps
      → CountsAre (λ q. port_since steps q (S q)) lent (counts_at_end made.lent steps)

-- of any port of an address there is one listing, and no other
abbrev pub OneListing : Type 0
OneListing =
    (f : ℕ → ℕ) → ((rs : List Run) × NamesMaximal f (2 ^ 32) rs)
    × ((rs qs : List Run) → NamesMaximal f (2 ^ 32) rs → NamesMaximal f (2 ^ 32) qs → rs ≡ qs)

-- THE DEMANDS of a boundary
pub record Demands (B : Boundary) : Type 0 where
  pub one : Demand1 B
  pub two : Demand2 B
  pub three : Demand3 B
