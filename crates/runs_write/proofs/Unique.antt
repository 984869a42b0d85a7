-- Any two results that the promise of `list_runs` or of `table_runs` allows coincide, with the runs that they leave. Assumes nothing.
use mathlib.Core.Path.{sym, ap, ap₂, ◌∙◌}
use Rattle.promise.specs.Determined.{Determined}
use Rattle.promise.specs.Over.{Outcome, outcome}
use Rattle.refusals.proofs.Numbers.{answered_one}
use Rattle.refusals.specs.declared.Answer.{Answer}
use Rattle.runs_write.proofs.list_runs.Kinds as list_runs_kinds
use Rattle.runs_write.proofs.list_runs.Reads as list_runs_reads
use Rattle.runs_write.proofs.table_runs.Kinds as table_runs_kinds
use Rattle.runs_write.proofs.table_runs.Reads as table_runs_reads

list_runs_unique : Determined 2 list_runs_kinds.ps list_runs_kinds.r list_runs_reads.Post (λ κs x s. outcome x s.1.0.now)
list_runs_unique κs a x y s t p q =
    let e = p ∙ sym q in
    ap₂ outcome (answered_one x y (ap (λ (o : Outcome Answer). o.answer) e)) (ap (λ (o : Outcome Answer). o.lent) e)

table_runs_unique : Determined 2 table_runs_kinds.ps table_runs_kinds.r table_runs_reads.Post (λ κs x s. outcome x s.1.1.0.now)
table_runs_unique κs a x y s t p q =
    let e = p ∙ sym q in
    ap₂ outcome (answered_one x y (ap (λ (o : Outcome Answer). o.answer) e)) (ap (λ (o : Outcome Answer). o.lent) e)
