-- Any two results that the promise of a conversion allows coincide: the number of a fault, and what C is told of a result. Assumes nothing.
use mathlib.Core.Path.{sym, ◌∙◌}
use Rattle.promise.specs.Determined.{Determined}
use Rattle.refusals.proofs.U32FromFault.from.Kinds as number_kinds
use Rattle.refusals.proofs.U32FromFault.from.Reads as number_reads
use Rattle.refusals.proofs.RefusalFromFault.from.Kinds as refusal_kinds
use Rattle.refusals.proofs.RefusalFromFault.from.Reads as refusal_reads
use Rattle.refusals.proofs.AnswerFromRefusal.from.Kinds as refused_kinds
use Rattle.refusals.proofs.AnswerFromRefusal.from.Reads as refused_reads
use Rattle.refusals.proofs.AnswerFromResultUnitRefusal.from.Kinds as checked_kinds
use Rattle.refusals.proofs.AnswerFromResultUnitRefusal.from.Reads as checked_reads
use Rattle.refusals.proofs.AnswerFromResultU32Refusal.from.Kinds as answered_kinds
use Rattle.refusals.proofs.AnswerFromResultU32Refusal.from.Reads as answered_reads
use Rattle.refusals.proofs.found.FoundFromResultReachedLost.from.Kinds as found_kinds
use Rattle.refusals.proofs.found.FoundFromResultReachedLost.from.Reads as found_reads
use Rattle.image_build.proofs.BuiltFromResultWrittenRefusal.from.Kinds as image_kinds
use Rattle.image_build.proofs.BuiltFromResultWrittenRefusal.from.Reads as image_reads
use Rattle.segment_rules.proofs.BuiltFromResultWrittenRefusal.from.Kinds as segments_kinds
use Rattle.segment_rules.proofs.BuiltFromResultWrittenRefusal.from.Reads as segments_reads

number_unique : Determined 0 number_kinds.ps number_kinds.r number_reads.Post (λ κs x s. x)
number_unique κs a x y s t p q = p ∙ sym q

refusal_unique : Determined 0 refusal_kinds.ps refusal_kinds.r refusal_reads.Post (λ κs x s. x)
refusal_unique κs a x y s t p q = p ∙ sym q

refused_unique : Determined 0 refused_kinds.ps refused_kinds.r refused_reads.Post (λ κs x s. x)
refused_unique κs a x y s t p q = p ∙ sym q

checked_unique : Determined 0 checked_kinds.ps checked_kinds.r checked_reads.Post (λ κs x s. x)
checked_unique κs a x y s t p q = p ∙ sym q

answered_unique : Determined 0 answered_kinds.ps answered_kinds.r answered_reads.Post (λ κs x s. x)
answered_unique κs a x y s t p q = p ∙ sym q

found_unique : Determined 0 found_kinds.ps found_kinds.r found_reads.Post (λ κs x s. x)
found_unique κs a x y s t p q = p ∙ sym q

image_unique : Determined 0 image_kinds.ps image_kinds.r image_reads.Post (λ κs x s. x)
image_unique κs a x y s t p q = p ∙ sym q

segments_unique : Determined 0 segments_kinds.ps segments_kinds.r segments_reads.Post (λ κs x s. x)
segments_unique κs a x y s t p q = p ∙ sym q
