-- Defines the boundary that the definitions make: each call has the one outcome that they say. RULES, "Promises". It ends and meets the
-- demands, so that what is said of such boundaries is said of something. Assumes nothing.
use Rattle.std.specs.Prelude.{◌≡◌, length}
use Rattle.refusals.specs.Reply.{placed, counted, looked, replied}
use Rattle.routes.specs.Check.{list_check}
use Rattle.routes.specs.Scan.{list_scan}
use Rattle.file_rules.specs.Calls.{read_file, write_file}
use Rattle.table_rows.specs.Words.{capacity, row_at, five_words}
use Rattle.table_rules.specs.Lookup.{lookup_in}
use Rattle.table_rules.specs.Save.{save_into}
use Rattle.table_lookup.specs.Good.{table_check}
use Rattle.table_update.specs.Calls.{build_into}
use Rattle.many_rules.specs.Many.{lookup_many}
use Rattle.image_rules.specs.Lookup.{lookup_words}
use Rattle.image_lookup.specs.Many.{many_words}
use Rattle.image_build.specs.Build.{build_image}
use Rattle.runs_rules.specs.Listing.{list_runs}
use Rattle.runs_rules.specs.TableRuns.{table_runs}
use Rattle.segment_rules.specs.Build.{build_segments, lookup_stores}
use Rattle.segment_rules.specs.Parts.{part_of}
use Rattle.message_rules.specs.Written.{write_message}
use Rattle.count_rules.specs.Counted.{make_counts, counted_on}
use Rattle.maftehon.specs.Reply.{replied_image, replied_segments, located, replied_place, replied_book}
use Rattle.demands.specs.Boundary.{Boundary, Ends}
use Rattle.demands.specs.Demands.{Demands}

abbrev pub defined : Boundary
defined = record {
  file-read = λ file list o. o ≡ replied (read_file 32 file list);
  file-write = λ list file o. o ≡ replied (write_file 32 list file);
  list-check = λ list x. x ≡ placed (list_check 32 list);
  list-scan = λ list a x. x ≡ counted (list_scan 32 list a);
  list-runs = λ list runs o. o ≡ replied (list_runs 32 list runs);
  table-check = λ rows n x. x ≡ placed (table_check 32 (capacity rows) (row_at rows) n);
  table-lookup = λ rows n a x. x ≡ looked (lookup_in 32 (capacity rows) (row_at rows) n a);
  table-build = λ list rows o. o ≡ replied (build_into five_words 32 list rows);
  table-save = λ rows n list o. o ≡ replied (save_into 32 (capacity rows) (row_at rows) n list);
  table-runs = λ rows n runs o. o ≡ replied (table_runs 32 (capacity rows) (row_at rows) n runs);
  image-build = λ s list nodes ports x. x ≡ replied_image (build_image 32 s list nodes ports);
  image-lookup = λ s nodes ports a x. x ≡ looked (lookup_words 32 s nodes ports a);
  image-lookup-many = λ s nodes ports addresses out o. o ≡ replied (many_words 32 s nodes ports addresses out);
  segments-build = λ list lent x. x ≡ replied_segments (build_segments list lent);
  segments-lookup = λ s a x. x ≡ looked (lookup_stores s a);
  segments-lookup-many = λ s addresses out o. o ≡ replied (lookup_many (lookup_stores s) addresses out);
  segments-entries = λ packed plain entry x. x ≡ located (part_of (length packed) (length plain) entry);
  message-write = λ list message o. o ≡ replied (write_message 32 list message);
  counts-make = λ rows n counts o. o ≡ replied_place (make_counts five_words 32 rows n counts);
  update = λ rows n counts e x. x ≡ replied_book (counted_on five_words 32 rows n counts e);
}

-- the impostors are stopped by something that can be met
pub record DefinedMeets : Type 0 where
  pub ends : Ends defined
  pub meets : Demands defined
