-- Any two outcomes that a promise of this crate allows coincide: the answer, and the words of the rows. Assumes nothing.
use mathlib.Core.Path.{sym, ◌∙◌}
use Rattle.refusals.specs.Refusals.{updated}
use Rattle.refusals.proofs.Numbers.{told_one, updated_one}
use Rattle.promise.specs.Determined.{Determined}
use Rattle.promise.specs.Over.{outcome}
use Rattle.message_apply.proofs.apply.Kinds as apply_kinds
use Rattle.message_apply.proofs.apply.Reads as apply_reads

apply_unique : Determined 2 apply_kinds.ps apply_kinds.r apply_reads.Post (λ κs x s. outcome x s.1.1.0.now)
apply_unique κs a x y s t p q = told_one (updated a.1.1.1.0) (updated_one a.1.1.1.0) x y _ _ (p ∙ sym q)
