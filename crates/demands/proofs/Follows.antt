-- A boundary that follows the definitions: each call has the one outcome that they say. The library's own does, by its contracts.
-- Assumes nothing.
use mathlib.Core.Path.{◌≡◌, sym, ◌∙◌}
use mathlib.Core.Logic.{inl, inr}
use mathlib.Core.List.{List}
use Prim.Native.Nat.{ℕ}
use lib.ListN.{length}
use Rattle.promise.specs.Over.{Outcome}
use Rattle.refusals.specs.Reply.{Reply, placed, counted, looked, replied}
use Rattle.routes.specs.Routes.{route}
use Rattle.routes.specs.Check.{list_check}
use Rattle.routes.specs.Scan.{list_scan}
use Rattle.file_rules.specs.Calls.{read_file, write_file}
use Rattle.table_rows.specs.Words.{capacity, row_at, five_words}
use Rattle.table_rules.specs.Lookup.{lookup_in}
use Rattle.table_rules.specs.Save.{save_into}
use Rattle.table_lookup.specs.Good.{table_check}
use Rattle.table_update.specs.Calls.{build_into}
use Rattle.table_update.specs.History.{announcing, withdrawing}
use Rattle.many_rules.specs.Many.{lookup_many}
use Rattle.image_rules.specs.Lookup.{lookup_words}
use Rattle.image_lookup.specs.Many.{many_words}
use Rattle.image_build.specs.Build.{build_image}
use Rattle.runs_rules.specs.Listing.{list_runs}
use Rattle.runs_rules.specs.TableRuns.{table_runs}
use Rattle.segment_rules.specs.Parts.{part_of}
use Rattle.segment_rules.specs.Build.{Stores, build_segments, lookup_stores}
use Rattle.message_rules.specs.Written.{write_message}
use Rattle.message_calls.specs.History.{Event, single, message}
use Rattle.count_rules.specs.Counted.{make_counts, counted_on}
use Rattle.maftehon.specs.Reply.{Imaged, replied_image, Segmented, replied_segments, located, replied_place, Booked, replied_book}
use Rattle.demands.specs.Boundary.{Boundary}
use Rattle.demands.specs.Exports.{Updated, exports}

pub record Follows (B : Boundary) : Type 0 where
  pub file-read : (file list : List ℕ) (o : Outcome Reply) → B.file-read file list o → o ≡ replied (read_file 32 file list)
  pub file-write : (list file : List ℕ) (o : Outcome Reply) → B.file-write list file o → o ≡ replied (write_file 32 list file)
  pub list-check : (list : List ℕ) (x : Reply) → B.list-check list x → x ≡ placed (list_check 32 list)
  pub list-scan : (list : List ℕ) (a : ℕ) (x : Reply) → B.list-scan list a x → x ≡ counted (list_scan 32 list a)
  pub list-runs : (list runs : List ℕ) (o : Outcome Reply) → B.list-runs list runs o → o ≡ replied (list_runs 32 list runs)
  pub table-check : (rows : List ℕ) (n : ℕ) (x : Reply) → B.table-check rows n x → x ≡ placed (table_check 32 (capacity rows) (row_at rows) n)
  pub table-lookup : (rows : List ℕ) (n a : ℕ) (x : Reply) → B.table-lookup rows n a x → x ≡ looked (lookup_in 32 (capacity rows) (row_at rows) n a)
  pub table-build : (list rows : List ℕ) (o : Outcome Reply) → B.table-build list rows o → o ≡ replied (build_into five_words 32 list rows)
  pub table-save : (rows : List ℕ) (n : ℕ) (list : List ℕ) (o : Outcome Reply) → B.table-save rows n list o → o ≡ replied (save_into 32 (capacity rows) (row_at rows) n list)
  pub table-runs : (rows : List ℕ) (n : ℕ) (runs : List ℕ) (o : Outcome Reply) → B.table-runs rows n runs o → o ≡ replied (table_runs 32 (capacity rows) (row_at rows) n runs)
  pub image-build : (s : ℕ) (list nodes ports : List ℕ) (x : Imaged) → B.image-build s list nodes ports x → x ≡ replied_image (build_image 32 s list nodes ports)
  pub image-lookup : (s : ℕ) (nodes ports : List ℕ) (a : ℕ) (x : Reply) → B.image-lookup s nodes ports a x → x ≡ looked (lookup_words 32 s nodes ports a)
  pub image-lookup-many : (s : ℕ) (nodes ports addresses out : List ℕ) (o : Outcome Reply) → B.image-lookup-many s nodes ports addresses out o → o ≡ replied (many_words 32 s nodes ports addresses out)
  pub segments-build : (list : List ℕ) (lent : Stores) (x : Segmented) → B.segments-build list lent x → x ≡ replied_segments (build_segments list lent)
  pub segments-lookup : (s : Stores) (a : ℕ) (x : Reply) → B.segments-lookup s a x → x ≡ looked (lookup_stores s a)
  pub segments-lookup-many : (s : Stores) (addresses out : List ℕ) (o : Outcome Reply) → B.segments-lookup-many s addresses out o → o ≡ replied (lookup_many (lookup_stores s) addresses out)
  pub segments-entries : (packed plain : List ℕ) (entry : ℕ) (x : Reply) → B.segments-entries packed plain entry x → x ≡ located (part_of (length packed) (length plain) entry)
  pub message-write : (list message : List ℕ) (o : Outcome Reply) → B.message-write list message o → o ≡ replied (write_message 32 list message)
  pub counts-make : (rows : List ℕ) (n : ℕ) (counts : List ℕ) (o : Outcome Reply) → B.counts-make rows n counts o → o ≡ replied_place (make_counts five_words 32 rows n counts)
  pub update : (rows : List ℕ) (n : ℕ) (counts : List ℕ) (e : Event) (x : Booked) → B.update rows n counts e x → x ≡ replied_book (counted_on five_words 32 rows n counts e)

-- a lookup at a constant stride
at_constant : (k s : ℕ) (nodes ports : List ℕ) (a : ℕ) (x : Reply) → s ≡ k
    → (nodes' ports' : List ℕ) (a' : ℕ) → nodes' ≡ nodes → ports' ≡ ports → a' ≡ a
    → x ≡ looked (lookup_words 32 k nodes' ports' a') → x ≡ looked (lookup_words 32 s nodes ports a)
at_constant k s nodes ports a x e nodes' ports' a' f g h is = is ∙ (λ j. looked (lookup_words 32 (sym e j) (f j) (g j) (h j)))

looked_up_follows : (s : ℕ) (nodes ports : List ℕ) (a : ℕ) (x : Reply) → exports.image-lookup s nodes ports a x
    → x ≡ looked (lookup_words 32 s nodes ports a)
looked_up_follows s nodes ports a x (inl m) = sym m.5 ∙ m.0.meets ∙ (λ j. looked (lookup_words 32 (m.1 j) (m.2 j) (m.3 j) (m.4 j)))
looked_up_follows s nodes ports a x (inr (inl m)) = at_constant 1 s nodes ports a x m.0 _ _ _ m.1.1 m.1.2 m.1.3 (sym m.1.4 ∙ m.1.0.meets)
looked_up_follows s nodes ports a x (inr (inr (inl m))) = at_constant 2 s nodes ports a x m.0 _ _ _ m.1.1 m.1.2 m.1.3 (sym m.1.4 ∙ m.1.0.meets)
looked_up_follows s nodes ports a x (inr (inr (inr m))) = at_constant 4 s nodes ports a x m.0 _ _ _ m.1.1 m.1.2 m.1.3 (sym m.1.4 ∙ m.1.0.meets)

-- The contract of a call that was made says its outcome; what it was handed is what the boundary says.
-- an update, by its export
updated_follows : (rows : List ℕ) (n : ℕ) (counts : List ℕ) (e : Event) (x : Booked) → Updated rows n counts e x
    → x ≡ replied_book (counted_on five_words 32 rows n counts e)
updated_follows rows n counts (single (announcing q)) x m =
    sym m.7 ∙ m.0.meets
    ∙ (λ j. replied_book (counted_on five_words 32 (m.1 j) (m.2 j) (m.6 j) (single (announcing (route (m.3 j) (m.4 j) (m.5 j))))))
updated_follows rows n counts (single (withdrawing value len)) x m =
    sym m.6 ∙ m.0.meets ∙ (λ j. replied_book (counted_on five_words 32 (m.1 j) (m.2 j) (m.5 j) (single (withdrawing (m.3 j) (m.4 j)))))
updated_follows rows n counts (message bytes port) x m =
    sym m.6 ∙ m.0.meets ∙ (λ j. replied_book (counted_on five_words 32 (m.3 j) (m.4 j) (m.5 j) (message (m.1 j) (m.2 j))))

pub exports_follow : Follows exports
exports_follow = record {
  file-read = λ file list o m. sym m.3 ∙ m.0.meets ∙ (λ j. replied (read_file 32 (m.1 j) (m.2 j)));
  file-write = λ list file o m. sym m.3 ∙ m.0.meets ∙ (λ j. replied (write_file 32 (m.1 j) (m.2 j)));
  list-check = λ list x m. sym m.2 ∙ m.0.meets ∙ (λ j. placed (list_check 32 (m.1 j)));
  list-scan = λ list a x m. sym m.3 ∙ m.0.meets ∙ (λ j. counted (list_scan 32 (m.1 j) (m.2 j)));
  list-runs = λ list runs o m. sym m.3 ∙ m.0.meets ∙ (λ j. replied (list_runs 32 (m.1 j) (m.2 j)));
  table-check = λ rows n x m. sym m.3 ∙ m.0.meets ∙ (λ j. placed (table_check 32 (capacity (m.1 j)) (row_at (m.1 j)) (m.2 j)));
  table-lookup = λ rows n a x m. sym m.4 ∙ m.0.meets ∙ (λ j. looked (lookup_in 32 (capacity (m.1 j)) (row_at (m.1 j)) (m.2 j) (m.3 j)));
  table-build = λ list rows o m. sym m.3 ∙ m.0.meets ∙ (λ j. replied (build_into five_words 32 (m.1 j) (m.2 j)));
  table-save = λ rows n list o m. sym m.4 ∙ m.0.meets ∙ (λ j. replied (save_into 32 (capacity (m.1 j)) (row_at (m.1 j)) (m.2 j) (m.3 j)));
  table-runs = λ rows n runs o m. sym m.4 ∙ m.0.meets ∙ (λ j. replied (table_runs 32 (capacity (m.1 j)) (row_at (m.1 j)) (m.2 j) (m.3 j)));
  image-build = λ s list nodes ports x m. sym m.5 ∙ m.0.meets ∙ (λ j. replied_image (build_image 32 (m.1 j) (m.2 j) (m.3 j) (m.4 j)));
  image-lookup = looked_up_follows;
  image-lookup-many = λ s nodes ports addresses out o m. sym m.6 ∙ m.0.meets ∙ (λ j. replied (many_words 32 (m.1 j) (m.2 j) (m.3 j) (m.4 j) (m.5 j)));
  segments-build = λ list lent x m. sym m.3 ∙ m.0.meets ∙ (λ j. replied_segments (build_segments (m.1 j) (m.2 j)));
  segments-lookup = λ s a x m. sym m.3 ∙ m.0.meets ∙ (λ j. looked (lookup_stores (m.1 j) (m.2 j)));
  segments-lookup-many = λ s addresses out o m. sym m.4 ∙ m.0.meets ∙ (λ j. replied (lookup_many (lookup_stores (m.1 j)) (m.2 j) (m.3 j)));
  segments-entries = λ packed plain entry x m. sym m.4 ∙ m.0.meets ∙ (λ j. located (part_of (length (m.1 j)) (length (m.2 j)) (m.3 j)));
  message-write = λ list message o m. sym m.3 ∙ m.0.meets ∙ (λ j. replied (write_message 32 (m.1 j) (m.2 j)));
  counts-make = λ rows n counts o m. sym m.4 ∙ m.0.meets ∙ (λ j. replied_place (make_counts five_words 32 (m.1 j) (m.2 j) (m.3 j)));
  update = updated_follows;
}
