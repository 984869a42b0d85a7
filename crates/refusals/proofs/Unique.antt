-- Any two results that a promise of this crate allows coincide. Assumes nothing.
use mathlib.Core.Path.{sym, ◌∙◌}
use Rattle.refusals.specs.Reply.{reply}
use Rattle.promise.specs.Determined.{Determined}
use Rattle.refusals.proofs.Fault.at.Reads as at_reads
use Rattle.refusals.proofs.Fault.at.Kinds as at_kinds
use Rattle.refusals.proofs.Answer.updated.Reads as updated_reads
use Rattle.refusals.proofs.Answer.updated.Kinds as updated_kinds
use Rattle.refusals.proofs.Answer.refused.Reads as refused_reads
use Rattle.refusals.proofs.Answer.refused.Kinds as refused_kinds
use Rattle.refusals.proofs.Answer.keeping.Reads as keeping_reads
use Rattle.refusals.proofs.Answer.keeping.Kinds as keeping_kinds
use Rattle.refusals.proofs.Answer.accepted.Reads as accepted_reads
use Rattle.refusals.proofs.Answer.accepted.Kinds as accepted_kinds
use Rattle.refusals.proofs.found.Found.found.Kinds as found_kinds
use Rattle.refusals.proofs.found.Found.found.Reads as found_reads
use Rattle.refusals.proofs.found.Found.lost.Kinds as lost_kinds
use Rattle.refusals.proofs.found.Found.lost.Reads as lost_reads
use Rattle.refusals.proofs.reply.placed.Kinds as placed_kinds
use Rattle.refusals.proofs.reply.placed.Reads as placed_reads
use Rattle.refusals.proofs.reply.counted.Kinds as counted_kinds
use Rattle.refusals.proofs.reply.counted.Reads as counted_reads
use Rattle.refusals.proofs.reply.looked.Kinds as looked_kinds
use Rattle.refusals.proofs.reply.looked.Reads as looked_reads

at_unique : Determined 0 at_kinds.ps at_kinds.r at_reads.Post (λ κs x s. x)
at_unique κs a x y s t p q = p ∙ sym q

updated_unique : Determined 0 updated_kinds.ps updated_kinds.r updated_reads.Post (λ κs x s. x)
updated_unique κs a x y s t p q = p ∙ sym q

refused_unique : Determined 0 refused_kinds.ps refused_kinds.r refused_reads.Post (λ κs x s. x)
refused_unique κs a x y s t p q = p ∙ sym q

keeping_unique : Determined 0 keeping_kinds.ps keeping_kinds.r keeping_reads.Post (λ κs x s. x)
keeping_unique κs a x y s t p q = p ∙ sym q

accepted_unique : Determined 0 accepted_kinds.ps accepted_kinds.r accepted_reads.Post (λ κs x s. x)
accepted_unique κs a x y s t p q = p ∙ sym q

found_unique : Determined 0 found_kinds.ps found_kinds.r found_reads.Post (λ κs x s. x)
found_unique κs a x y s t p q = p ∙ sym q

lost_unique : Determined 0 lost_kinds.ps lost_kinds.r lost_reads.Post (λ κs x s. x)
lost_unique κs a x y s t p q = p ∙ sym q

placed_unique : Determined 1 placed_kinds.ps placed_kinds.r placed_reads.Post (λ κs x s. reply x s.1.0.now)
placed_unique κs a x y s t p q = p ∙ sym q

counted_unique : Determined 1 counted_kinds.ps counted_kinds.r counted_reads.Post (λ κs x s. reply x s.1.0.now)
counted_unique κs a x y s t p q = p ∙ sym q

looked_unique : Determined 1 looked_kinds.ps looked_kinds.r looked_reads.Post (λ κs x s. reply x s.1.0.now)
looked_unique κs a x y s t p q = p ∙ sym q
