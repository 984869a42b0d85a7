-- Any two outcomes that the promise of an export allows coincide: the number returned, the words of `answer`, and the memory lent to
-- be written. Assumes nothing.
use mathlib.Core.Path.{sym, ◌∙◌}
use Rattle.promise.specs.Determined.{Determined}
use Rattle.promise.specs.Over.{outcome}
use Rattle.segment_rules.specs.Build.{stores}
use Rattle.maftehon.specs.Reply.{imaged, segmented, booked}
use Rattle.refusals.specs.Reply.{reply}
use Rattle.maftehon.proofs.files.mft_file_read.Kinds as file_read_kinds
use Rattle.maftehon.proofs.files.mft_file_read.Reads as file_read_reads
use Rattle.maftehon.proofs.files.mft_file_write.Kinds as file_write_kinds
use Rattle.maftehon.proofs.files.mft_file_write.Reads as file_write_reads
use Rattle.maftehon.proofs.route_lists.mft_list_check.Kinds as list_check_kinds
use Rattle.maftehon.proofs.route_lists.mft_list_check.Reads as list_check_reads
use Rattle.maftehon.proofs.route_lists.mft_list_scan.Kinds as list_scan_kinds
use Rattle.maftehon.proofs.route_lists.mft_list_scan.Reads as list_scan_reads
use Rattle.maftehon.proofs.route_lists.mft_list_runs.Kinds as list_runs_kinds
use Rattle.maftehon.proofs.route_lists.mft_list_runs.Reads as list_runs_reads
use Rattle.maftehon.proofs.tables.mft_table_check.Kinds as table_check_kinds
use Rattle.maftehon.proofs.tables.mft_table_check.Reads as table_check_reads
use Rattle.maftehon.proofs.tables.mft_table_lookup.Kinds as table_lookup_kinds
use Rattle.maftehon.proofs.tables.mft_table_lookup.Reads as table_lookup_reads
use Rattle.maftehon.proofs.tables.mft_table_build.Kinds as table_build_kinds
use Rattle.maftehon.proofs.tables.mft_table_build.Reads as table_build_reads
use Rattle.maftehon.proofs.tables.mft_table_save.Kinds as table_save_kinds
use Rattle.maftehon.proofs.tables.mft_table_save.Reads as table_save_reads
use Rattle.maftehon.proofs.tables.mft_table_runs.Kinds as table_runs_kinds
use Rattle.maftehon.proofs.tables.mft_table_runs.Reads as table_runs_reads
use Rattle.maftehon.proofs.images.mft_image_build.Kinds as image_build_kinds
use Rattle.maftehon.proofs.images.mft_image_build.Reads as image_build_reads
use Rattle.maftehon.proofs.images.mft_image_lookup.Kinds as image_lookup_kinds
use Rattle.maftehon.proofs.images.mft_image_lookup.Reads as image_lookup_reads
use Rattle.maftehon.proofs.images.mft_image_lookup_1.Kinds as image_lookup_1_kinds
use Rattle.maftehon.proofs.images.mft_image_lookup_1.Reads as image_lookup_1_reads
use Rattle.maftehon.proofs.images.mft_image_lookup_2.Kinds as image_lookup_2_kinds
use Rattle.maftehon.proofs.images.mft_image_lookup_2.Reads as image_lookup_2_reads
use Rattle.maftehon.proofs.images.mft_image_lookup_4.Kinds as image_lookup_4_kinds
use Rattle.maftehon.proofs.images.mft_image_lookup_4.Reads as image_lookup_4_reads
use Rattle.maftehon.proofs.images.mft_image_lookup_many.Kinds as image_lookup_many_kinds
use Rattle.maftehon.proofs.images.mft_image_lookup_many.Reads as image_lookup_many_reads
use Rattle.maftehon.proofs.segments.mft_segments_build.Kinds as segments_build_kinds
use Rattle.maftehon.proofs.segments.mft_segments_build.Reads as segments_build_reads
use Rattle.maftehon.proofs.segments.mft_segments_lookup.Kinds as segments_lookup_kinds
use Rattle.maftehon.proofs.segments.mft_segments_lookup.Reads as segments_lookup_reads
use Rattle.maftehon.proofs.segments.mft_segments_lookup_many.Kinds as segments_lookup_many_kinds
use Rattle.maftehon.proofs.segments.mft_segments_lookup_many.Reads as segments_lookup_many_reads
use Rattle.maftehon.proofs.segments.mft_segments_entries.Kinds as segments_entries_kinds
use Rattle.maftehon.proofs.segments.mft_segments_entries.Reads as segments_entries_reads
use Rattle.maftehon.proofs.messages.mft_message_write.Kinds as message_write_kinds
use Rattle.maftehon.proofs.messages.mft_message_write.Reads as message_write_reads
use Rattle.maftehon.proofs.counts.mft_counts_make.Kinds as counts_make_kinds
use Rattle.maftehon.proofs.counts.mft_counts_make.Reads as counts_make_reads
use Rattle.maftehon.proofs.counts.mft_counted_announce.Kinds as counted_announce_kinds
use Rattle.maftehon.proofs.counts.mft_counted_announce.Reads as counted_announce_reads
use Rattle.maftehon.proofs.counts.mft_counted_withdraw.Kinds as counted_withdraw_kinds
use Rattle.maftehon.proofs.counts.mft_counted_withdraw.Reads as counted_withdraw_reads
use Rattle.maftehon.proofs.counts.mft_counted_message.Kinds as counted_message_kinds
use Rattle.maftehon.proofs.counts.mft_counted_message.Reads as counted_message_reads

file_read_unique : Determined 3 file_read_kinds.ps file_read_kinds.r file_read_reads.Post (λ κs x s. outcome (reply x s.1.1.0.now) s.1.0.now)
file_read_unique κs a x y s t p q = p ∙ sym q

file_write_unique : Determined 3 file_write_kinds.ps file_write_kinds.r file_write_reads.Post (λ κs x s. outcome (reply x s.1.1.0.now) s.1.0.now)
file_write_unique κs a x y s t p q = p ∙ sym q

list_check_unique : Determined 2 list_check_kinds.ps list_check_kinds.r list_check_reads.Post (λ κs x s. reply x s.1.0.now)
list_check_unique κs a x y s t p q = p ∙ sym q

list_scan_unique : Determined 2 list_scan_kinds.ps list_scan_kinds.r list_scan_reads.Post (λ κs x s. reply x s.1.1.0.now)
list_scan_unique κs a x y s t p q = p ∙ sym q

list_runs_unique : Determined 3 list_runs_kinds.ps list_runs_kinds.r list_runs_reads.Post (λ κs x s. outcome (reply x s.1.1.0.now) s.1.0.now)
list_runs_unique κs a x y s t p q = p ∙ sym q

table_check_unique : Determined 2 table_check_kinds.ps table_check_kinds.r table_check_reads.Post (λ κs x s. reply x s.1.1.0.now)
table_check_unique κs a x y s t p q = p ∙ sym q

table_lookup_unique : Determined 2 table_lookup_kinds.ps table_lookup_kinds.r table_lookup_reads.Post (λ κs x s. reply x s.1.1.1.0.now)
table_lookup_unique κs a x y s t p q = p ∙ sym q

table_build_unique : Determined 3 table_build_kinds.ps table_build_kinds.r table_build_reads.Post (λ κs x s. outcome (reply x s.1.1.0.now) s.1.0.now)
table_build_unique κs a x y s t p q = p ∙ sym q

table_save_unique : Determined 3 table_save_kinds.ps table_save_kinds.r table_save_reads.Post (λ κs x s. outcome (reply x s.1.1.1.0.now) s.1.1.0.now)
table_save_unique κs a x y s t p q = p ∙ sym q

table_runs_unique : Determined 3 table_runs_kinds.ps table_runs_kinds.r table_runs_reads.Post (λ κs x s. outcome (reply x s.1.1.1.0.now) s.1.1.0.now)
table_runs_unique κs a x y s t p q = p ∙ sym q

image_build_unique : Determined 4 image_build_kinds.ps image_build_kinds.r image_build_reads.Post (λ κs x s. imaged (reply x s.1.1.1.1.0.now) s.1.1.0.now s.1.1.1.0.now)
image_build_unique κs a x y s t p q = p ∙ sym q

image_lookup_unique : Determined 3 image_lookup_kinds.ps image_lookup_kinds.r image_lookup_reads.Post (λ κs x s. reply x s.1.1.1.1.0.now)
image_lookup_unique κs a x y s t p q = p ∙ sym q

image_lookup_1_unique : Determined 3 image_lookup_1_kinds.ps image_lookup_1_kinds.r image_lookup_1_reads.Post (λ κs x s. reply x s.1.1.1.0.now)
image_lookup_1_unique κs a x y s t p q = p ∙ sym q

image_lookup_2_unique : Determined 3 image_lookup_2_kinds.ps image_lookup_2_kinds.r image_lookup_2_reads.Post (λ κs x s. reply x s.1.1.1.0.now)
image_lookup_2_unique κs a x y s t p q = p ∙ sym q

image_lookup_4_unique : Determined 3 image_lookup_4_kinds.ps image_lookup_4_kinds.r image_lookup_4_reads.Post (λ κs x s. reply x s.1.1.1.0.now)
image_lookup_4_unique κs a x y s t p q = p ∙ sym q

image_lookup_many_unique : Determined 5 image_lookup_many_kinds.ps image_lookup_many_kinds.r image_lookup_many_reads.Post (λ κs x s. outcome (reply x s.1.1.1.1.1.0.now) s.1.1.1.1.0.now)
image_lookup_many_unique κs a x y s t p q = p ∙ sym q

segments_build_unique : Determined 6 segments_build_kinds.ps segments_build_kinds.r segments_build_reads.Post (λ κs x s. segmented (reply x s.1.1.1.1.1.0.now) (stores s.1.0.now s.1.1.0.now s.1.1.1.0.now s.1.1.1.1.0.now))
segments_build_unique κs a x y s t p q = p ∙ sym q

segments_lookup_unique : Determined 5 segments_lookup_kinds.ps segments_lookup_kinds.r segments_lookup_reads.Post (λ κs x s. reply x s.1.1.1.1.1.0.now)
segments_lookup_unique κs a x y s t p q = p ∙ sym q

segments_lookup_many_unique : Determined 7 segments_lookup_many_kinds.ps segments_lookup_many_kinds.r segments_lookup_many_reads.Post (λ κs x s. outcome (reply x s.1.1.1.1.1.1.0.now) s.1.1.1.1.1.0.now)
segments_lookup_many_unique κs a x y s t p q = p ∙ sym q

segments_entries_unique : Determined 3 segments_entries_kinds.ps segments_entries_kinds.r segments_entries_reads.Post (λ κs x s. reply x s.1.1.1.0.now)
segments_entries_unique κs a x y s t p q = p ∙ sym q

message_write_unique : Determined 3 message_write_kinds.ps message_write_kinds.r message_write_reads.Post (λ κs x s. outcome (reply x s.1.1.0.now) s.1.0.now)
message_write_unique κs a x y s t p q = p ∙ sym q

counts_make_unique : Determined 3 counts_make_kinds.ps counts_make_kinds.r counts_make_reads.Post (λ κs x s. outcome (reply x s.1.1.1.0.now) s.1.1.0.now)
counts_make_unique κs a x y s t p q = p ∙ sym q

counted_announce_unique : Determined 3 counted_announce_kinds.ps counted_announce_kinds.r counted_announce_reads.Post (λ κs x s. booked (reply x s.1.1.1.1.1.1.0.now) s.0.now s.1.1.1.1.1.0.now)
counted_announce_unique κs a x y s t p q = p ∙ sym q

counted_withdraw_unique : Determined 3 counted_withdraw_kinds.ps counted_withdraw_kinds.r counted_withdraw_reads.Post (λ κs x s. booked (reply x s.1.1.1.1.1.0.now) s.0.now s.1.1.1.1.0.now)
counted_withdraw_unique κs a x y s t p q = p ∙ sym q

counted_message_unique : Determined 4 counted_message_kinds.ps counted_message_kinds.r counted_message_reads.Post (λ κs x s. booked (reply x s.1.1.1.1.1.0.now) s.1.1.0.now s.1.1.1.1.0.now)
counted_message_unique κs a x y s t p q = p ∙ sym q
