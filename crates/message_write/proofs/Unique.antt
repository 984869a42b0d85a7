-- Any two results that a promise of this crate allows coincide, with the message that they leave. Assumes nothing.
use mathlib.Core.Path.{sym, ◌∙◌}
use Rattle.refusals.specs.Refusals.{answered}
use Rattle.refusals.proofs.Numbers.{told_one, answered_one}
use Rattle.promise.specs.Determined.{Determined}
use Rattle.promise.specs.Over.{outcome}
use Rattle.message_write.proofs.write_message.Kinds as write_message_kinds
use Rattle.message_write.proofs.write_message.Reads as write_message_reads

write_message_unique : Determined 2 write_message_kinds.ps write_message_kinds.r write_message_reads.Post (λ κs x s. outcome x s.1.0.now)
write_message_unique κs a x y s t p q = told_one answered answered_one x y _ _ (p ∙ sym q)
