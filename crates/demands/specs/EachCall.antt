-- Defines what holds of the checks of every call, and states that they leave no choice: RULES, "Order of the checks". Assumes nothing.
use Rattle.std.specs.Prelude.{List, ℕ}
use Rattle.segment_rules.specs.Build.{Stores}
use Rattle.message_calls.specs.History.{Event}
use Rattle.demands.specs.Lamp.{Verdict, done, Decides}
use Rattle.demands.specs.Checks.{list_checks, read_checks, write_checks, order_checks, build_checks, save_checks, lookup_checks, image_checks, image_lookup_checks, list_runs_checks, table_runs_checks}
use Rattle.demands.specs.SegmentChecks.{segment_checks, segment_lookup_checks, segment_reads, entries_stand}
use Rattle.demands.specs.ManyChecks.{many_checks, image_many_checks}
use Rattle.demands.specs.MessageChecks.{withdrawal_checks}
use Rattle.demands.specs.CountChecks.{make_checks, update_checks}

-- the checks of every call are such
pub record EachCall (Such : Verdict → Type 0) : Type 0 where
  pub file-read : (file list : List ℕ) → Such (read_checks 32 file list)
  pub file-write : (list file : List ℕ) → Such (write_checks 32 list file)
  pub list-check : (list : List ℕ) → Such (list_checks 32 list done)
  pub list-runs : (list runs : List ℕ) → Such (list_runs_checks 32 list runs)
  pub table-check : (rows : List ℕ) (n : ℕ) → Such (order_checks 32 rows n done)
  pub table-lookup : (rows : List ℕ) (n a : ℕ) → Such (lookup_checks 32 rows n a)
  pub table-build : (list rows : List ℕ) → Such (build_checks 32 list rows)
  pub table-save : (rows : List ℕ) (n : ℕ) (list : List ℕ) → Such (save_checks 32 rows n list)
  pub table-runs : (rows : List ℕ) (n : ℕ) (runs : List ℕ) → Such (table_runs_checks 32 rows n runs)
  pub image-build : (s : ℕ) (list nodes ports : List ℕ) → Such (image_checks 32 s list nodes ports)
  pub image-lookup : (s : ℕ) (nodes ports : List ℕ) (a : ℕ) → Such (image_lookup_checks 32 s nodes ports a)
  pub image-lookup-many : (s : ℕ) (addresses out : List ℕ) → Such (image_many_checks s addresses out)
  pub segments-build : (list : List ℕ) (lent : Stores) → Such (segment_checks list lent)
  pub segments-lookup : (s : Stores) (a : ℕ) → Such (segment_lookup_checks s a)
  pub segments_reads : (s : Stores) (a : ℕ) → Such (segment_reads s a)
  pub segments-lookup-many : (addresses out : List ℕ) → Such (many_checks addresses out)
  pub segments-entries : Such done
  pub message-write : (list message : List ℕ) → Such (withdrawal_checks 32 list message)
  pub counts-make : (rows : List ℕ) (n : ℕ) (counts : List ℕ) → Such (make_checks 32 rows n counts)
  pub update : (rows : List ℕ) (n : ℕ) (counts : List ℕ) (e : Event) → Such (update_checks 32 rows n counts e)

-- "exactly in the listed case": the checks of a call leave no choice, so that no other number or place would do
abbrev pub Demand1Decides : Type 0
Demand1Decides = EachCall Decides

-- nor is there a choice where the entries of a segment stand
abbrev pub EntriesDecided : Type 0
EntriesDecided = (packed plain : List ℕ) (entry : ℕ) → Decides (entries_stand packed plain entry)
