-- States that 13 is no refusal of any call: RULES, "Refusals". Proofs are in proofs/. Assumes nothing.
use Rattle.std.specs.Prelude.{◌≡◌, List, ℕ}
use Rattle.promise.specs.Over.{Outcome}
use Rattle.refusals.specs.Reply.{Reply}
use Rattle.segment_rules.specs.Build.{Stores}
use Rattle.message_calls.specs.History.{Event, EventFits}
use Rattle.maftehon.specs.Reply.{Imaged, Segmented, Booked}
use Rattle.demands.specs.Boundary.{Boundary}
use Rattle.demands.specs.SegmentChecks.{SixteenBits}
use Rattle.demands.specs.Demands.{Demand1}

-- "its number stays unused"
abbrev pub unused : ℕ
unused = 13

-- a number that no call of a boundary answers, whatever it is handed
pub record NeverAnswers (B : Boundary) (number : ℕ) : Type 0 where
  pub file-read : (file list : List ℕ) (o : Outcome Reply) → B.file-read file list o → o.answer.number ≡ number → ⊥
  pub file-write : (list file : List ℕ) (o : Outcome Reply) → B.file-write list file o → o.answer.number ≡ number → ⊥
  pub list-check : (list : List ℕ) (x : Reply) → B.list-check list x → x.number ≡ number → ⊥
  pub list-scan : (list : List ℕ) (a : ℕ) (x : Reply) → B.list-scan list a x → x.number ≡ number → ⊥
  pub list-runs : (list runs : List ℕ) (o : Outcome Reply) → B.list-runs list runs o → o.answer.number ≡ number → ⊥
  pub table-check : (rows : List ℕ) (n : ℕ) (x : Reply) → B.table-check rows n x → x.number ≡ number → ⊥
  pub table-lookup : (rows : List ℕ) (n a : ℕ) (x : Reply) → B.table-lookup rows n a x → x.number ≡ number → ⊥
  pub table-build : (list rows : List ℕ) (o : Outcome Reply) → B.table-build list rows o → o.answer.number ≡ number → ⊥
  pub table-save :
      (rows : List ℕ) (n : ℕ) (list : List ℕ) (o : Outcome Reply) → B.table-save rows n list o → o.answer.number ≡ number → ⊥
  pub table-runs :
      (rows : List ℕ) (n : ℕ) (runs : List ℕ) (o : Outcome Reply) → B.table-runs rows n runs o → o.answer.number ≡ number → ⊥
  pub image-build :
      (s : ℕ) (list nodes ports : List ℕ) (x : Imaged) → B.image-build s list nodes ports x → x.reply.number ≡ number → ⊥
  pub image-lookup :
      (s : ℕ) (nodes ports : List ℕ) (a : ℕ) (x : Reply) → B.image-lookup s nodes ports a x → x.number ≡ number → ⊥
  pub image-lookup-many :
      (s : ℕ) (nodes ports addresses out : List ℕ) (o : Outcome Reply) → B.image-lookup-many s nodes ports addresses out o
      → o.answer.number ≡ number → ⊥
  pub segments-build : (list : List ℕ) (lent : Stores) (x : Segmented) → B.segments-build list lent x → x.reply.number ≡ number → ⊥
  pub segments-lookup :
      (s : Stores) (a : ℕ) (x : Reply) → SixteenBits s → B.segments-lookup s a x → x.number ≡ number → ⊥
  pub segments-lookup-many :
      (s : Stores) (addresses out : List ℕ) (o : Outcome Reply) → B.segments-lookup-many s addresses out o → o.answer.number ≡ number → ⊥
  pub segments-entries :
      (packed plain : List ℕ) (entry : ℕ) (x : Reply) → B.segments-entries packed plain entry x → x.number ≡ number → ⊥
  pub message-write : (list message : List ℕ) (o : Outcome Reply) → B.message-write list message o → o.answer.number ≡ number → ⊥
  pub counts-make :
      (rows : List ℕ) (n : ℕ) (counts : List ℕ) (o : Outcome Reply) → B.counts-make rows n counts o → o.answer.number ≡ number → ⊥
  pub update :
      (rows : List ℕ) (n : ℕ) (counts : List ℕ) (e : Event) (x : Booked) → EventFits 32 e → B.update rows n counts e x
      → x.reply.number ≡ number → ⊥

-- 13 is given by none of the calls, the two listings among them
abbrev pub NoThirteen : Type 1
NoThirteen = (B : Boundary) → Demand1 B → NeverAnswers B unused
