-- Defines the boundary of the library itself, from the contracts of its exports as they are generated beside them: a call may have
-- just the outcomes that its contract allows. RULES, "Calls". Assumes nothing.
use Rattle.std.specs.Prelude.{◌≡◌, ◌⊎◌, List, ℕ}
use borrow.Fn.Kinds.{Out}
use Rattle.promise.specs.Made.{Made}
use Rattle.promise.specs.Over.{outcome}
use Rattle.refusals.specs.Reply.{Reply, reply}
use Rattle.segment_rules.specs.Build.{stores}
use Rattle.table_update.specs.History.{announcing, withdrawing}
use Rattle.message_calls.specs.History.{Event, single, message}
use Rattle.maftehon.specs.Reply.{imaged, segmented, Booked, booked}
use Rattle.demands.specs.Boundary.{Boundary}
use Rattle.maftehon.proofs.files.mft_file_read.Kinds as file_read_kinds
use Rattle.maftehon.proofs.files.mft_file_read.Reads as file-read
use Rattle.maftehon.proofs.files.mft_file_write.Kinds as file_write_kinds
use Rattle.maftehon.proofs.files.mft_file_write.Reads as file-write
use Rattle.maftehon.proofs.route_lists.mft_list_check.Kinds as list_check_kinds
use Rattle.maftehon.proofs.route_lists.mft_list_check.Reads as list-check
use Rattle.maftehon.proofs.route_lists.mft_list_scan.Kinds as list_scan_kinds
use Rattle.maftehon.proofs.route_lists.mft_list_scan.Reads as list-scan
use Rattle.maftehon.proofs.route_lists.mft_list_runs.Kinds as list_runs_kinds
use Rattle.maftehon.proofs.route_lists.mft_list_runs.Reads as list-runs
use Rattle.maftehon.proofs.tables.mft_table_check.Kinds as table_check_kinds
use Rattle.maftehon.proofs.tables.mft_table_check.Reads as table-check
use Rattle.maftehon.proofs.tables.mft_table_lookup.Kinds as table_lookup_kinds
use Rattle.maftehon.proofs.tables.mft_table_lookup.Reads as table-lookup
use Rattle.maftehon.proofs.tables.mft_table_build.Kinds as table_build_kinds
use Rattle.maftehon.proofs.tables.mft_table_build.Reads as table-build
use Rattle.maftehon.proofs.tables.mft_table_save.Kinds as table_save_kinds
use Rattle.maftehon.proofs.tables.mft_table_save.Reads as table-save
use Rattle.maftehon.proofs.tables.mft_table_runs.Kinds as table_runs_kinds
use Rattle.maftehon.proofs.tables.mft_table_runs.Reads as table-runs
use Rattle.maftehon.proofs.images.mft_image_build.Kinds as image_build_kinds
use Rattle.maftehon.proofs.images.mft_image_build.Reads as image-build
use Rattle.maftehon.proofs.images.mft_image_lookup.Kinds as image_lookup_kinds
use Rattle.maftehon.proofs.images.mft_image_lookup.Reads as image-lookup
use Rattle.maftehon.proofs.images.mft_image_lookup_1.Kinds as image_lookup_1_kinds
use Rattle.maftehon.proofs.images.mft_image_lookup_1.Reads as image_lookup_1
use Rattle.maftehon.proofs.images.mft_image_lookup_2.Reads as image_lookup_2
use Rattle.maftehon.proofs.images.mft_image_lookup_4.Reads as image_lookup_4
use Rattle.maftehon.proofs.images.mft_image_lookup_many.Kinds as image_lookup_many_kinds
use Rattle.maftehon.proofs.images.mft_image_lookup_many.Reads as image-lookup-many
use Rattle.maftehon.proofs.segments.mft_segments_build.Kinds as segments_build_kinds
use Rattle.maftehon.proofs.segments.mft_segments_build.Reads as segments-build
use Rattle.maftehon.proofs.segments.mft_segments_lookup.Kinds as segments_lookup_kinds
use Rattle.maftehon.proofs.segments.mft_segments_lookup.Reads as segments-lookup
use Rattle.maftehon.proofs.segments.mft_segments_lookup_many.Kinds as segments_lookup_many_kinds
use Rattle.maftehon.proofs.segments.mft_segments_lookup_many.Reads as segments-lookup-many
use Rattle.maftehon.proofs.segments.mft_segments_entries.Kinds as segments_entries_kinds
use Rattle.maftehon.proofs.segments.mft_segments_entries.Reads as segments-entries
use Rattle.maftehon.proofs.messages.mft_message_write.Kinds as message_write_kinds
use Rattle.maftehon.proofs.messages.mft_message_write.Reads as message-write
use Rattle.maftehon.proofs.counts.mft_counts_make.Kinds as counts_make_kinds
use Rattle.maftehon.proofs.counts.mft_counts_make.Reads as counts-make
use Rattle.maftehon.proofs.counts.mft_counted_announce.Kinds as counted_announce_kinds
use Rattle.maftehon.proofs.counts.mft_counted_announce.Reads as counted_announce
use Rattle.maftehon.proofs.counts.mft_counted_withdraw.Kinds as counted_withdraw_kinds
use Rattle.maftehon.proofs.counts.mft_counted_withdraw.Reads as counted_withdraw
use Rattle.maftehon.proofs.counts.mft_counted_message.Kinds as counted_message_kinds
use Rattle.maftehon.proofs.counts.mft_counted_message.Reads as counted_message

-- a lookup at a constant stride, by the contract of an export that has no other argument
abbrev pub LookedAt : Out 3 image_lookup_1_kinds.ps image_lookup_1_kinds.r → (nodes ports : List ℕ) → ℕ → Reply → Type 0
LookedAt Post nodes ports address x =
    (c : Made 3 image_lookup_1_kinds.ps image_lookup_1_kinds.r Post)
    × (c.args.0.now ≡ nodes) × (c.args.1.0.now ≡ ports) × (c.args.1.1.0 ≡ address)
    × (reply c.result c.exit.1.1.1.0.now ≡ x)

-- and with the stride among the arguments
abbrev pub LookedBy : ℕ → (nodes ports : List ℕ) → ℕ → Reply → Type 0
LookedBy stride nodes ports address x =
    (c : Made 3 image_lookup_kinds.ps image_lookup_kinds.r image-lookup.Post)
    × (c.args.0 ≡ stride) × (c.args.1.0.now ≡ nodes) × (c.args.1.1.0.now ≡ ports) × (c.args.1.1.1.0 ≡ address)
    × (reply c.result c.exit.1.1.1.1.0.now ≡ x)

-- an update, by the export for its kind
abbrev pub Updated : (rows : List ℕ) (n : ℕ) (counts : List ℕ) (e : Event) → Booked → Type 0
Updated rows n counts (single (announcing q)) x =
    (c : Made 3 counted_announce_kinds.ps counted_announce_kinds.r counted_announce.Post)
    × (c.args.0.now ≡ rows) × (c.args.1.0 ≡ n) × (c.args.1.1.0 ≡ q.value) × (c.args.1.1.1.0 ≡ q.len) × (c.args.1.1.1.1.0 ≡ q.port)
    × (c.args.1.1.1.1.1.0.now ≡ counts)
    × (booked (reply c.result c.exit.1.1.1.1.1.1.0.now) c.exit.0.now c.exit.1.1.1.1.1.0.now ≡ x)
Updated rows n counts (single (withdrawing value len)) x =
    (c : Made 3 counted_withdraw_kinds.ps counted_withdraw_kinds.r counted_withdraw.Post)
    × (c.args.0.now ≡ rows) × (c.args.1.0 ≡ n) × (c.args.1.1.0 ≡ value) × (c.args.1.1.1.0 ≡ len)
    × (c.args.1.1.1.1.0.now ≡ counts)
    × (booked (reply c.result c.exit.1.1.1.1.1.0.now) c.exit.0.now c.exit.1.1.1.1.0.now ≡ x)
Updated rows n counts (message bytes port) x =
    (c : Made 4 counted_message_kinds.ps counted_message_kinds.r counted_message.Post)
    × (c.args.0.now ≡ bytes) × (c.args.1.0 ≡ port) × (c.args.1.1.0.now ≡ rows) × (c.args.1.1.1.0 ≡ n)
    × (c.args.1.1.1.1.0.now ≡ counts)
    × (booked (reply c.result c.exit.1.1.1.1.1.0.now) c.exit.1.1.0.now c.exit.1.1.1.1.0.now ≡ x)

-- each call by its export: made with these arguments, it returned and left this; the lookup in an image by any of four
abbrev pub exports : Boundary
exports = record {
  file-read = λ file list o.
      (c : Made 3 file_read_kinds.ps file_read_kinds.r file-read.Post)
      × (c.args.0.now ≡ file) × (c.args.1.0.now ≡ list)
      × (outcome (reply c.result c.exit.1.1.0.now) c.exit.1.0.now ≡ o);
  file-write = λ list file o.
      (c : Made 3 file_write_kinds.ps file_write_kinds.r file-write.Post)
      × (c.args.0.now ≡ list) × (c.args.1.0.now ≡ file)
      × (outcome (reply c.result c.exit.1.1.0.now) c.exit.1.0.now ≡ o);
  list-check = λ list x.
      (c : Made 2 list_check_kinds.ps list_check_kinds.r list-check.Post)
      × (c.args.0.now ≡ list)
      × (reply c.result c.exit.1.0.now ≡ x);
  list-scan = λ list address x.
      (c : Made 2 list_scan_kinds.ps list_scan_kinds.r list-scan.Post)
      × (c.args.0.now ≡ list) × (c.args.1.0 ≡ address)
      × (reply c.result c.exit.1.1.0.now ≡ x);
  list-runs = λ list runs o.
      (c : Made 3 list_runs_kinds.ps list_runs_kinds.r list-runs.Post)
      × (c.args.0.now ≡ list) × (c.args.1.0.now ≡ runs)
      × (outcome (reply c.result c.exit.1.1.0.now) c.exit.1.0.now ≡ o);
  table-check = λ rows n x.
      (c : Made 2 table_check_kinds.ps table_check_kinds.r table-check.Post)
      × (c.args.0.now ≡ rows) × (c.args.1.0 ≡ n)
      × (reply c.result c.exit.1.1.0.now ≡ x);
  table-lookup = λ rows n address x.
      (c : Made 2 table_lookup_kinds.ps table_lookup_kinds.r table-lookup.Post)
      × (c.args.0.now ≡ rows) × (c.args.1.0 ≡ n) × (c.args.1.1.0 ≡ address)
      × (reply c.result c.exit.1.1.1.0.now ≡ x);
  table-build = λ list rows o.
      (c : Made 3 table_build_kinds.ps table_build_kinds.r table-build.Post)
      × (c.args.0.now ≡ list) × (c.args.1.0.now ≡ rows)
      × (outcome (reply c.result c.exit.1.1.0.now) c.exit.1.0.now ≡ o);
  table-save = λ rows n list o.
      (c : Made 3 table_save_kinds.ps table_save_kinds.r table-save.Post)
      × (c.args.0.now ≡ rows) × (c.args.1.0 ≡ n) × (c.args.1.1.0.now ≡ list)
      × (outcome (reply c.result c.exit.1.1.1.0.now) c.exit.1.1.0.now ≡ o);
  table-runs = λ rows n runs o.
      (c : Made 3 table_runs_kinds.ps table_runs_kinds.r table-runs.Post)
      × (c.args.0.now ≡ rows) × (c.args.1.0 ≡ n) × (c.args.1.1.0.now ≡ runs)
      × (outcome (reply c.result c.exit.1.1.1.0.now) c.exit.1.1.0.now ≡ o);
  image-build = λ stride list nodes ports x.
      (c : Made 4 image_build_kinds.ps image_build_kinds.r image-build.Post)
      × (c.args.0 ≡ stride) × (c.args.1.0.now ≡ list) × (c.args.1.1.0.now ≡ nodes) × (c.args.1.1.1.0.now ≡ ports)
      × (imaged (reply c.result c.exit.1.1.1.1.0.now) c.exit.1.1.0.now c.exit.1.1.1.0.now ≡ x);
  image-lookup = λ stride nodes ports address x.
      LookedBy stride nodes ports address x
      ⊎ (((stride ≡ 1) × LookedAt image_lookup_1.Post nodes ports address x)
      ⊎ (((stride ≡ 2) × LookedAt image_lookup_2.Post nodes ports address x) ⊎ ((stride ≡ 4) × LookedAt image_lookup_4.Post nodes ports address x)));
  image-lookup-many = λ stride nodes ports addresses out o.
      (c : Made 5 image_lookup_many_kinds.ps image_lookup_many_kinds.r image-lookup-many.Post)
      × (c.args.0 ≡ stride) × (c.args.1.0.now ≡ nodes) × (c.args.1.1.0.now ≡ ports) × (c.args.1.1.1.0.now ≡ addresses)
      × (c.args.1.1.1.1.0.now ≡ out)
      × (outcome (reply c.result c.exit.1.1.1.1.1.0.now) c.exit.1.1.1.1.0.now ≡ o);
  segments-build = λ list lent x.
      (c : Made 6 segments_build_kinds.ps segments_build_kinds.r segments-build.Post)
      × (c.args.0.now ≡ list)
      × (stores c.args.1.0.now c.args.1.1.0.now c.args.1.1.1.0.now c.args.1.1.1.1.0.now ≡ lent)
      × (segmented (reply c.result c.exit.1.1.1.1.1.0.now)
      (stores c.exit.1.0.now c.exit.1.1.0.now c.exit.1.1.1.0.now c.exit.1.1.1.1.0.now)
      ≡ x);
  segments-lookup = λ s address x.
      (c : Made 5 segments_lookup_kinds.ps segments_lookup_kinds.r segments-lookup.Post)
      × (stores c.args.0.now c.args.1.0.now c.args.1.1.0.now c.args.1.1.1.0.now ≡ s) × (c.args.1.1.1.1.0 ≡ address)
      × (reply c.result c.exit.1.1.1.1.1.0.now ≡ x);
  segments-lookup-many = λ s addresses out o.
      (c : Made 7 segments_lookup_many_kinds.ps segments_lookup_many_kinds.r segments-lookup-many.Post)
      × (stores c.args.0.now c.args.1.0.now c.args.1.1.0.now c.args.1.1.1.0.now ≡ s)
      × (c.args.1.1.1.1.0.now ≡ addresses) × (c.args.1.1.1.1.1.0.now ≡ out)
      × (outcome (reply c.result c.exit.1.1.1.1.1.1.0.now) c.exit.1.1.1.1.1.0.now ≡ o);
  segments-entries = λ packed plain entry x.
      (c : Made 3 segments_entries_kinds.ps segments_entries_kinds.r segments-entries.Post)
      × (c.args.0.now ≡ packed) × (c.args.1.0.now ≡ plain) × (c.args.1.1.0 ≡ entry)
      × (reply c.result c.exit.1.1.1.0.now ≡ x);
  message-write = λ list message o.
      (c : Made 3 message_write_kinds.ps message_write_kinds.r message-write.Post)
      × (c.args.0.now ≡ list) × (c.args.1.0.now ≡ message)
      × (outcome (reply c.result c.exit.1.1.0.now) c.exit.1.0.now ≡ o);
  counts-make = λ rows n counts o.
      (c : Made 3 counts_make_kinds.ps counts_make_kinds.r counts-make.Post)
      × (c.args.0.now ≡ rows) × (c.args.1.0 ≡ n) × (c.args.1.1.0.now ≡ counts)
      × (outcome (reply c.result c.exit.1.1.1.0.now) c.exit.1.1.0.now ≡ o);
  update = Updated;
}
