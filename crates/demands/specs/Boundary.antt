-- Defines a C boundary as its callers see it: for each call, and what it is handed, the outcomes that it may have. RULES, "Calls".
-- Which boundary it is, is left open: the demands are made of any. Assumes nothing.
use Rattle.std.specs.Prelude.{List, ℕ, get_or}
use Rattle.promise.specs.Over.{Outcome}
use Rattle.refusals.specs.Reply.{Reply}
use Rattle.segment_rules.specs.Build.{Stores}
use Rattle.message_calls.specs.History.{Event}
use Rattle.maftehon.specs.Reply.{Imaged, Segmented, Booked}

-- an outcome is the number returned, the words of `answer`, and what is left in the memory lent to be written
pub record Boundary : Type 1 where
  pub file-read : (file list : List ℕ) → Outcome Reply → Type 0
  pub file-write : (list file : List ℕ) → Outcome Reply → Type 0
  pub list-check : (list : List ℕ) → Reply → Type 0
  pub list-scan : (list : List ℕ) (address : ℕ) → Reply → Type 0
  pub list-runs : (list runs : List ℕ) → Outcome Reply → Type 0
  pub table-check : (rows : List ℕ) (n : ℕ) → Reply → Type 0
  pub table-lookup : (rows : List ℕ) (n address : ℕ) → Reply → Type 0
  pub table-build : (list rows : List ℕ) → Outcome Reply → Type 0
  pub table-save : (rows : List ℕ) (n : ℕ) (list : List ℕ) → Outcome Reply → Type 0
  pub table-runs : (rows : List ℕ) (n : ℕ) (runs : List ℕ) → Outcome Reply → Type 0
  pub image-build : (stride : ℕ) (list nodes ports : List ℕ) → Imaged → Type 0
  pub image-lookup : (stride : ℕ) (nodes ports : List ℕ) (address : ℕ) → Reply → Type 0
  pub image-lookup-many : (stride : ℕ) (nodes ports addresses out : List ℕ) → Outcome Reply → Type 0
  pub segments-build : (list : List ℕ) (lent : Stores) → Segmented → Type 0
  pub segments-lookup : (stores : Stores) (address : ℕ) → Reply → Type 0
  pub segments-lookup-many : (stores : Stores) (addresses out : List ℕ) → Outcome Reply → Type 0
  pub segments-entries : (packed plain : List ℕ) (entry : ℕ) → Reply → Type 0
  pub message-write : (list message : List ℕ) → Outcome Reply → Type 0
  pub counts-make : (rows : List ℕ) (n : ℕ) (counts : List ℕ) → Outcome Reply → Type 0
  -- an announcement, a withdrawal or a message: three exports, each with the counts beside the rows
  pub update : (rows : List ℕ) (n : ℕ) (counts : List ℕ) (e : Event) → Booked → Type 0

-- the words of `answer`: the place; then the count, n, port or offset; then the rows, nodes or words read, or how many entries there are
abbrev pub place : Reply → ℕ
place x = get_or x.answer 0 0

abbrev pub result : Reply → ℕ
result x = get_or x.answer 1 0

abbrev pub read_count : Reply → ℕ
read_count x = get_or x.answer 2 0

-- "Every call ends": whatever a call is handed, it has an outcome. Of the library's own code the checker sees to that.
pub record Ends (B : Boundary) : Type 0 where
  pub file-read : (file list : List ℕ) → (o : Outcome Reply) × B.file-read file list o
  pub file-write : (list file : List ℕ) → (o : Outcome Reply) × B.file-write list file o
  pub list-check : (list : List ℕ) → (x : Reply) × B.list-check list x
  pub list-scan : (list : List ℕ) (a : ℕ) → (x : Reply) × B.list-scan list a x
  pub list-runs : (list runs : List ℕ) → (o : Outcome Reply) × B.list-runs list runs o
  pub table-check : (rows : List ℕ) (n : ℕ) → (x : Reply) × B.table-check rows n x
  pub table-lookup : (rows : List ℕ) (n a : ℕ) → (x : Reply) × B.table-lookup rows n a x
  pub table-build : (list rows : List ℕ) → (o : Outcome Reply) × B.table-build list rows o
  pub table-save : (rows : List ℕ) (n : ℕ) (list : List ℕ) → (o : Outcome Reply) × B.table-save rows n list o
  pub table-runs : (rows : List ℕ) (n : ℕ) (runs : List ℕ) → (o : Outcome Reply) × B.table-runs rows n runs o
  pub image-build : (s : ℕ) (list nodes ports : List ℕ) → (x : Imaged) × B.image-build s list nodes ports x
  pub image-lookup : (s : ℕ) (nodes ports : List ℕ) (a : ℕ) → (x : Reply) × B.image-lookup s nodes ports a x
  pub image-lookup-many :
      (s : ℕ) (nodes ports addresses out : List ℕ) → (o : Outcome Reply) × B.image-lookup-many s nodes ports addresses out o
  pub segments-build : (list : List ℕ) (lent : Stores) → (x : Segmented) × B.segments-build list lent x
  pub segments-lookup : (s : Stores) (a : ℕ) → (x : Reply) × B.segments-lookup s a x
  pub segments-lookup-many : (s : Stores) (addresses out : List ℕ) → (o : Outcome Reply) × B.segments-lookup-many s addresses out o
  pub segments-entries : (packed plain : List ℕ) (entry : ℕ) → (x : Reply) × B.segments-entries packed plain entry x
  pub message-write : (list message : List ℕ) → (o : Outcome Reply) × B.message-write list message o
  pub counts-make : (rows : List ℕ) (n : ℕ) (counts : List ℕ) → (o : Outcome Reply) × B.counts-make rows n counts o
  pub update : (rows : List ℕ) (n : ℕ) (counts : List ℕ) (e : Event) → (x : Booked) × B.update rows n counts e x
