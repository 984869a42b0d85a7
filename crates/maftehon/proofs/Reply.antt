-- An answer of the library, laid out, is the reply for what the library promises. Assumes nothing.
use mathlib.Core.Path.{◌≡◌, ap, ◌∙◌}
use mathlib.Core.List.{List}
use Prim.Native.Nat.{ℕ}
use Rattle.promise.specs.Over.{Outcome, outcome}
use Rattle.refusals.specs.declared.Answer.{Answer}
use Rattle.image_build.specs.Build.{Left, left}
use Rattle.image_build.specs.declared.Built.{Built}
use Rattle.segment_rules.specs.Build.{Stores, Left as SegmentsLeft, left as segmentsLeft}
use Rattle.segment_rules.specs.declared.Built.{Built as SegmentsBuilt}
use Rattle.count_rules.specs.Counted.{Counted, counted as withCounts}
use Rattle.maftehon.specs.Reply.{built, imaged, replied_image, blocked, segmented, replied_segments, replied_place, booked, replied_book}
use Rattle.refusals.specs.Reply.{Reply, placed, counted, replied}

pub replied_is :
    (x : Answer) (words : List ℕ) (promised : Outcome Answer) (y : Reply) → outcome x words ≡ promised → y ≡ counted x
    → outcome y words ≡ replied promised
replied_is x words promised y p q = ap (λ z. outcome z words) q ∙ ap replied p

pub replied_image_is :
    (x : Built) (nodes ports : List ℕ) (promised : Left) (y : Reply) → left x nodes ports ≡ promised → y ≡ built x
    → imaged y nodes ports ≡ replied_image promised
replied_image_is x nodes ports promised y p q = ap (λ z. imaged z nodes ports) q ∙ ap replied_image p

pub replied_segments_is :
    (x : SegmentsBuilt) (s : Stores) (promised : SegmentsLeft) (y : Reply) → segmentsLeft x s ≡ promised → y ≡ blocked x
    → segmented y s ≡ replied_segments promised
replied_segments_is x s promised y p q = ap (λ z. segmented z s) q ∙ ap replied_segments p

pub replied_place_is :
    (x : Answer) (words : List ℕ) (promised : Outcome Answer) (y : Reply) → outcome x words ≡ promised → y ≡ placed x
    → outcome y words ≡ replied_place promised
replied_place_is x words promised y p q = ap (λ z. outcome z words) q ∙ ap replied_place p

pub replied_book_is :
    (x : Answer) (rows counts : List ℕ) (promised : Counted) (y : Reply) → withCounts x rows counts ≡ promised → y ≡ counted x
    → booked y rows counts ≡ replied_book promised
replied_book_is x rows counts promised y p q = ap (λ z. booked z rows counts) q ∙ ap replied_book p
