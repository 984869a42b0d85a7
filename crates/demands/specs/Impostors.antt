-- States that no boundary whose calls end and that meets the demands is one of the five impostors: RULES, "Promises". Nothing else is
-- known of the boundary; what is accepted is what its own calls return. Assumes nothing.
use Rattle.std.specs.Prelude.{◌≡◌, List, [], ℕ, ◌+◌, ◌/◌, ◌^◌, ◌≤◌, ◌<◌, length, get_or}
use Rattle.promise.specs.Over.{Outcome}
use Rattle.bits.specs.Bits.{bits}
use Rattle.trie.specs.Trie.{Trie, IsTrie, reads}
use Rattle.refusals.specs.Reply.{Reply}
use Rattle.routes.specs.Routes.{route_at, route_count, Words}
use Rattle.routes.specs.declared.Route.{Route}
use Rattle.table_update.specs.History.{announcing, withdrawing, Table}
use Rattle.image_rules.specs.Image.{passed}
use Rattle.image_build.specs.Build.{list_routes}
use Rattle.segment_rules.specs.Theorems.{reads_of}
use Rattle.segment_rules.specs.Build.{Stores}
use Rattle.message_rules.specs.Message.{announced_in}
use Rattle.message_calls.specs.History.{Event, single, message}
use Rattle.count_rules.specs.Tally.{ports}
use Rattle.maftehon.specs.Reply.{Imaged, Segmented, Booked}
use Rattle.demands.specs.Boundary.{Boundary, result, read_count, Ends}
use Rattle.demands.specs.History.{Step, Happened, empty_table, at_end, held_by}
use Rattle.demands.specs.Demands.{Demand1, Demands}

abbrev pub Stopped : (Boundary → Type 0) → Type 1
Stopped Impostor = (B : Boundary) → Ends B → Demands B → Impostor B → ⊥

-- "One refuses everything": here, every announcement, or every withdrawal, or every lookup
abbrev pub RefusesAnnouncements : Boundary → Type 0
RefusesAnnouncements B =
    (rows : List ℕ) (n : ℕ) (counts : List ℕ) (q : Route) (x : Booked) → B.update rows n counts (single (announcing q)) x → x.reply.number ≡ 0 → ⊥

abbrev pub RefusesWithdrawals : Boundary → Type 0
RefusesWithdrawals B =
    (rows : List ℕ) (n : ℕ) (counts : List ℕ) (value len : ℕ) (x : Booked) → B.update rows n counts (single (withdrawing value len)) x
    → x.reply.number ≡ 0 → ⊥

abbrev pub RefusesLookups : Boundary → Type 0
RefusesLookups B = (rows : List ℕ) (n a : ℕ) (x : Reply) → B.table-lookup rows n a x → x.number ≡ 0 → ⊥

-- "One answers a fixed port", where it answers one at all
abbrev pub FixedPort : Boundary → Type 0
FixedPort B = (port : ℕ) × ((rows : List ℕ) (n a : ℕ) (x : Reply) → B.table-lookup rows n a x → x.number ≡ 0 → result x ≡ port)

abbrev pub FixedPortOfImage : Boundary → Type 0
FixedPortOfImage B =
    (port : ℕ)
    × ((s : ℕ) (nodes ports : List ℕ) (a : ℕ) (x : Reply) → B.image-lookup s nodes ports a x → x.number ≡ 0 → result x ≡ port)

abbrev pub FixedPortOfSegments : Boundary → Type 0
FixedPortOfSegments B = (port : ℕ) × ((s : Stores) (a : ℕ) (x : Reply) → B.segments-lookup s a x → x.number ≡ 0 → result x ≡ port)

-- in every element of many lookups in one call
abbrev pub FixedElements : Boundary → Type 0
FixedElements B =
    (port : ℕ)
    × ((s : ℕ) (nodes ports addresses out : List ℕ) (o : Outcome Reply) → B.image-lookup-many s nodes ports addresses out o → o.answer.number ≡ 0
    → (i : ℕ) → i < length addresses → get_or o.lent i 0 ≡ port)

abbrev pub FixedElementsOfSegments : Boundary → Type 0
FixedElementsOfSegments B =
    (port : ℕ)
    × ((s : Stores) (addresses out : List ℕ) (o : Outcome Reply) → B.segments-lookup-many s addresses out o → o.answer.number ≡ 0
    → (i : ℕ) → i < length addresses → get_or o.lent i 0 ≡ port)

-- "one takes the first announcement and ignores the later calls": what it accepts leaves the rows as they were, whatever it says of n
abbrev pub IgnoresAnnouncements : Boundary → Type 0
IgnoresAnnouncements B =
    (rows : List ℕ) (n : ℕ) (counts : List ℕ) (q : Route) (x : Booked) → 0 < n → B.update rows n counts (single (announcing q)) x
    → x.reply.number ≡ 0 → x.rows ≡ rows

-- a withdrawal it accepts leaves the rows and n as they were: with another n, rows past it are no part of the table
abbrev pub IgnoresWithdrawals : Boundary → Type 0
IgnoresWithdrawals B =
    (rows : List ℕ) (n : ℕ) (counts : List ℕ) (value len : ℕ) (x : Booked) → 0 < n → B.update rows n counts (single (withdrawing value len)) x
    → x.reply.number ≡ 0 → (x.rows ≡ rows) × (result x.reply ≡ n)

-- "One leaves the table untouched", the first time too
abbrev pub UntouchedByAnnouncing : Boundary → Type 0
UntouchedByAnnouncing B =
    (rows : List ℕ) (n : ℕ) (counts : List ℕ) (q : Route) (x : Booked) → B.update rows n counts (single (announcing q)) x → x.reply.number ≡ 0
    → x.rows ≡ rows

abbrev pub UntouchedByWithdrawing : Boundary → Type 0
UntouchedByWithdrawing B =
    (rows : List ℕ) (n : ℕ) (counts : List ℕ) (value len : ℕ) (x : Booked) → B.update rows n counts (single (withdrawing value len)) x
    → x.reply.number ≡ 0 → (x.rows ≡ rows) × (result x.reply ≡ n)

-- "One invents its rows read": somewhere it says a number that is not the path's in the trie of the routes held
pub record InventsRows (B : Boundary) : Type 0 where
  pub rows : List ℕ
  pub steps : List Step
  pub happened : Happened B (empty_table rows) steps
  pub address : ℕ
  pub fits : address < 2 ^ 32
  pub reply : Reply
  pub answers : let t : Table = at_end (empty_table rows) steps in B.table-lookup t.words t.count address reply
  pub trie : Trie
  pub rule : IsTrie trie (held_by steps)
  pub invented : read_count reply ≡ reads trie (bits 32 address) → ⊥

-- or nodes: a number that is not "one more than the non-leaf slots passed"
pub record InventsNodes (B : Boundary) : Type 0 where
  pub stride : ℕ
  pub list : List ℕ
  pub words : Words 32 list
  pub nodes : List ℕ
  pub ports : List ℕ
  pub built : Imaged
  pub builds : B.image-build stride list nodes ports built
  pub done : built.reply.number ≡ 0
  pub address : ℕ
  pub fits : address < 2 ^ 32
  pub reply : Reply
  pub answers : B.image-lookup stride built.nodes built.ports address reply
  pub invented : read_count reply ≡ passed (list_routes 32 list) stride (32 / stride) [] (bits 32 address) + 1 → ⊥

-- of messages: one refuses them all, one applies the announcements alone, and one stops at the first prefix of a part
abbrev pub RefusesMessages : Boundary → Type 0
RefusesMessages B =
    (rows : List ℕ) (n : ℕ) (counts bytes : List ℕ) (port : ℕ) (x : Booked) → B.update rows n counts (message bytes port) x → x.reply.number ≡ 0 → ⊥

-- one that announces nothing leaves the rows and n as they were
abbrev pub AppliesAnnouncementsAlone : Boundary → Type 0
AppliesAnnouncementsAlone B =
    (rows : List ℕ) (n : ℕ) (counts bytes : List ℕ) (port : ℕ) (x : Booked) → announced_in 32 bytes ≡ []
    → B.update rows n counts (message bytes port) x → x.reply.number ≡ 0 → (x.rows ≡ rows) × (result x.reply ≡ n)

-- in an empty table none leaves more than one route
abbrev pub StopsAtTheFirst : Boundary → Type 0
StopsAtTheFirst B =
    (rows counts bytes : List ℕ) (port : ℕ) (x : Booked) → B.update rows 0 counts (message bytes port) x → x.reply.number ≡ 0
    → result x.reply ≤ 1

-- of counts: one leaves them all 0, one leaves those of before the update, and one has every address in port 0
abbrev pub CountsNothing : Boundary → Type 0
CountsNothing B =
    (rows : List ℕ) (n : ℕ) (counts : List ℕ) (e : Event) (x : Booked) → B.update rows n counts e x → x.reply.number ≡ 0
    → (port : ℕ) → port < ports → get_or x.counts port 0 ≡ 0

abbrev pub LeavesCounts : Boundary → Type 0
LeavesCounts B =
    (rows : List ℕ) (n : ℕ) (counts : List ℕ) (e : Event) (x : Booked) → B.update rows n counts e x → x.reply.number ≡ 0 → x.counts ≡ counts

abbrev pub CountsAllInPort0 : Boundary → Type 0
CountsAllInPort0 B =
    (rows : List ℕ) (n : ℕ) (counts : List ℕ) (e : Event) (x : Booked) → B.update rows n counts e x → x.reply.number ≡ 0
    → get_or x.counts 0 0 ≡ 2 ^ 32

-- or the words read in segment tables: a number that is not one for the first table, two for a packed segment or one for a plain one, and
-- one for a last block
pub record InventsReads (B : Boundary) : Type 0 where
  pub list : List ℕ
  pub words : Words 32 list
  pub lent : Stores
  pub built : Segmented
  pub builds : B.segments-build list lent built
  pub done : built.reply.number ≡ 0
  pub address : ℕ
  pub fits : address < 2 ^ 32
  pub reply : Reply
  pub answers : B.segments-lookup built.stores address reply
  pub invented : read_count reply ≡ reads_of (route_at list) (route_count list) address → ⊥

pub record ImpostorsStopped : Type 1 where
  pub refuses_announcements : Stopped RefusesAnnouncements
  pub refuses_withdrawals : Stopped RefusesWithdrawals
  pub refuses_lookups : Stopped RefusesLookups
  pub fixed_port : Stopped FixedPort
  pub fixed_port_of_image : Stopped FixedPortOfImage
  pub fixed_port_of_segments : Stopped FixedPortOfSegments
  pub fixed_elements : Stopped FixedElements
  pub fixed_elements_of_segments : Stopped FixedElementsOfSegments
  pub untouched_by_announcing : Stopped UntouchedByAnnouncing
  pub untouched_by_withdrawing : Stopped UntouchedByWithdrawing
  pub first_announcement_only : Stopped IgnoresAnnouncements
  pub later_withdrawals_ignored : Stopped IgnoresWithdrawals
  pub invented_rows : Stopped InventsRows
  pub invented_nodes : Stopped InventsNodes
  pub invented_reads : Stopped InventsReads
  pub refuses_messages : Stopped RefusesMessages
  pub announcements_alone : Stopped AppliesAnnouncementsAlone
  pub first_prefix_only : Stopped StopsAtTheFirst
  pub counts_nothing : Stopped CountsNothing
  pub leaves_counts : Stopped LeavesCounts
  pub counts_all_in_port_0 : Stopped CountsAllInPort0

-- "the table's exactly when stops it": by demand 1, each of the other calls is handed something that it may not refuse
pub record EachAccepts (B : Boundary) : Type 0 where
  pub file-read : (file : List ℕ) × (list : List ℕ) × ((o : Outcome Reply) → B.file-read file list o → o.answer.number ≡ 0)
  pub file-write : (list : List ℕ) × (file : List ℕ) × ((o : Outcome Reply) → B.file-write list file o → o.answer.number ≡ 0)
  pub list-check : (list : List ℕ) × ((x : Reply) → B.list-check list x → x.number ≡ 0)
  pub list-scan : (list : List ℕ) × (a : ℕ) × ((x : Reply) → B.list-scan list a x → x.number ≡ 0)
  pub list-runs : (list : List ℕ) × (runs : List ℕ) × ((o : Outcome Reply) → B.list-runs list runs o → o.answer.number ≡ 0)
  pub table-check : (rows : List ℕ) × (n : ℕ) × ((x : Reply) → B.table-check rows n x → x.number ≡ 0)
  pub table-build : (list : List ℕ) × (rows : List ℕ) × ((o : Outcome Reply) → B.table-build list rows o → o.answer.number ≡ 0)
  pub table-save :
      (rows : List ℕ) × (n : ℕ) × (list : List ℕ) × ((o : Outcome Reply) → B.table-save rows n list o → o.answer.number ≡ 0)
  pub table-runs :
      (rows : List ℕ) × (n : ℕ) × (runs : List ℕ) × ((o : Outcome Reply) → B.table-runs rows n runs o → o.answer.number ≡ 0)
  pub image-build :
      (s : ℕ) × (list : List ℕ) × (nodes : List ℕ) × (ports : List ℕ)
      × ((x : Imaged) → B.image-build s list nodes ports x → x.reply.number ≡ 0)
  pub image-lookup :
      (s : ℕ) × (nodes : List ℕ) × (ports : List ℕ) × (a : ℕ) × ((x : Reply) → B.image-lookup s nodes ports a x → x.number ≡ 0)
  pub image-lookup-many :
      (s : ℕ) × (nodes : List ℕ) × (ports : List ℕ) × (addresses : List ℕ) × (out : List ℕ)
      × ((o : Outcome Reply) → B.image-lookup-many s nodes ports addresses out o → o.answer.number ≡ 0)
  pub segments-build : (list : List ℕ) × (lent : Stores) × ((x : Segmented) → B.segments-build list lent x → x.reply.number ≡ 0)
  pub segments-lookup : (s : Stores) × (a : ℕ) × ((x : Reply) → B.segments-lookup s a x → x.number ≡ 0)
  pub segments-lookup-many :
      (s : Stores) × (addresses : List ℕ) × (out : List ℕ)
      × ((o : Outcome Reply) → B.segments-lookup-many s addresses out o → o.answer.number ≡ 0)
  pub segments-entries :
      (packed : List ℕ) × (plain : List ℕ) × (entry : ℕ) × ((x : Reply) → B.segments-entries packed plain entry x → x.number ≡ 0)
  pub message-write :
      (list : List ℕ) × (message : List ℕ) × ((o : Outcome Reply) → B.message-write list message o → o.answer.number ≡ 0)
  pub counts-make :
      (rows : List ℕ) × (n : ℕ) × (counts : List ℕ) × ((o : Outcome Reply) → B.counts-make rows n counts o → o.answer.number ≡ 0)
  pub message_applied :
      (rows : List ℕ) × (n : ℕ) × (counts : List ℕ) × (bytes : List ℕ) × (port : ℕ)
      × ((x : Booked) → B.update rows n counts (message bytes port) x → x.reply.number ≡ 0)

abbrev pub NoCallRefusesAll : Type 1
NoCallRefusesAll = (B : Boundary) → Demand1 B → EachAccepts B
