-- Defines what C gets for the build of an image or of segment tables, for the entries of a segment, and for the calls with counts: RULES,
-- "Calls". The reply, and the memories written. Assumes nothing.
use Rattle.std.specs.Prelude.{List, [], ◌∷◌, ℕ}
use Rattle.promise.specs.Over.{Outcome, outcome}
use Rattle.refusals.specs.declared.Answer.{Answer}
use Rattle.count_rules.specs.Counted.{Counted}
use Rattle.image_build.specs.Build.{Left}
use Rattle.image_build.specs.declared.Built.{Built}
use Rattle.refusals.specs.Reply.{Reply, reply, placed, counted}
use Rattle.segment_rules.specs.Build.{Stores, Left as SegmentsLeft}
use Rattle.segment_rules.specs.declared.Built.{Built as SegmentsBuilt}
use Rattle.segment_rules.specs.declared.Part.{Part}

-- the place, and the nodes and ports written
abbrev pub built : Built → Reply
built x = reply x.number (x.place ∷ x.nodes ∷ x.ports ∷ [])

-- what the build of an image leaves: its reply and the two memories
pub record Imaged : Type 0 where
  pub reply : Reply
  pub nodes : List ℕ
  pub ports : List ℕ

abbrev pub imaged : Reply → List ℕ → List ℕ → Imaged
imaged x nodes ports = record { reply = x; nodes = nodes; ports = ports }

abbrev pub replied_image : Left → Imaged
replied_image x = imaged (built x.built) x.nodes x.ports

-- the place, and the packed segments, the plain segments and the last blocks
abbrev pub blocked : SegmentsBuilt → Reply
blocked x = reply x.number (x.place ∷ x.packed ∷ x.plain ∷ x.last ∷ [])

-- what the build of segment tables leaves: its reply and the four stores
pub record Segmented : Type 0 where
  pub reply : Reply
  pub stores : Stores

abbrev pub segmented : Reply → Stores → Segmented
segmented x stores = record { reply = x; stores = stores }

abbrev pub replied_segments : SegmentsLeft → Segmented
replied_segments x = segmented (blocked x.built) x.stores

-- place 0, the offset in its store of the first entry of a segment, and how many entries there are
abbrev pub located : Part → Reply
located x = reply 0 (0 ∷ x.from ∷ x.count ∷ [])

-- counts made afresh: the place alone, and the counts
abbrev pub replied_place : Outcome Answer → Outcome Reply
replied_place x = outcome (placed x.answer) x.lent

-- what an update with counts leaves: its reply, the rows and the counts
pub record Booked : Type 0 where
  pub reply : Reply
  pub rows : List ℕ
  pub counts : List ℕ

abbrev pub booked : Reply → List ℕ → List ℕ → Booked
booked x rows counts = record { reply = x; rows = rows; counts = counts }

abbrev pub replied_book : Counted → Booked
replied_book x = booked (counted x.answer) x.rows x.counts
