-- Any two outcomes that a promise of this crate allows coincide: the answer, and the words that are left. Assumes nothing.
use mathlib.Core.Path.{sym, ap, ap₂, ◌∙◌}
use Rattle.promise.specs.Over.{Outcome, outcome}
use Rattle.promise.specs.Determined.{Determined}
use Rattle.refusals.proofs.Numbers.{answered_one, updated_one}
use Rattle.refusals.specs.declared.Answer.{Answer}
use Rattle.table_update.proofs.announce.Kinds as announce_kinds
use Rattle.table_update.proofs.announce.Reads as announce_reads
use Rattle.table_update.proofs.withdraw.Kinds as withdraw_kinds
use Rattle.table_update.proofs.withdraw.Reads as withdraw_reads
use Rattle.table_update.proofs.build.Kinds as build_kinds
use Rattle.table_update.proofs.build.Reads as build_reads

announce_unique : Determined 1 announce_kinds.ps announce_kinds.r announce_reads.Post (λ κs x s. outcome x s.0.now)
announce_unique κs a x y s t p q =
    let e = p ∙ sym q in
    ap₂ outcome (updated_one _ x y (ap (λ (o : Outcome Answer). o.answer) e)) (ap (λ (o : Outcome Answer). o.lent) e)

withdraw_unique : Determined 1 withdraw_kinds.ps withdraw_kinds.r withdraw_reads.Post (λ κs x s. outcome x s.0.now)
withdraw_unique κs a x y s t p q =
    let e = p ∙ sym q in
    ap₂ outcome (updated_one _ x y (ap (λ (o : Outcome Answer). o.answer) e)) (ap (λ (o : Outcome Answer). o.lent) e)

-- the list is read, and the words of the rows are what the call may change
build_unique : Determined 2 build_kinds.ps build_kinds.r build_reads.Post (λ κs x s. outcome x s.1.0.now)
build_unique κs a x y s t p q =
    let e = p ∙ sym q in
    ap₂ outcome (answered_one x y (ap (λ (o : Outcome Answer). o.answer) e)) (ap (λ (o : Outcome Answer). o.lent) e)
