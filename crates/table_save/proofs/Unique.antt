-- Any two results that the promise of this crate allows coincide, with the list that they leave. Assumes nothing.
use mathlib.Core.Path.{sym, ap, ap₂, ◌∙◌}
use Rattle.promise.specs.Determined.{Determined}
use Rattle.promise.specs.Over.{Outcome, outcome}
use Rattle.refusals.proofs.Numbers.{answered_one}
use Rattle.refusals.specs.declared.Answer.{Answer}
use Rattle.table_save.proofs.save.Kinds as save_kinds
use Rattle.table_save.proofs.save.Reads as save_reads

save_unique : Determined 2 save_kinds.ps save_kinds.r save_reads.Post (λ κs x s. outcome x s.1.1.0.now)
save_unique κs a x y s t p q =
    let e = p ∙ sym q in
    ap₂ outcome (answered_one x y (ap (λ (o : Outcome Answer). o.answer) e)) (ap (λ (o : Outcome Answer). o.lent) e)
