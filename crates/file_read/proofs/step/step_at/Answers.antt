use mathlib.Core.Path.{refl, ap, ◌∙◌}
use Rattle.std.proofs.Common.{Err}
use Rattle.refusals.proofs.Numbers.{number_ne0}
use Rattle.file_read.specs.Step.{stepped}
use Rattle.file_read.proofs.StepReturns.{step_unframed, step_faulty, step_took}
use Rattle.file_read.proofs.step.step_at.Goals as goal

pub returns-in-Err : goal.returns-in-Err
returns-in-Err c = let a = c.args in
    ap (λ r. stepped (Err r)) c.at.ensures ∙ step_unframed 32 a.file.now a.c _ c.in-Err.ensures (number_ne0 _)

pub returns-in-Err-content_fault : goal.returns-in-Err-content_fault
returns-in-Err-content_fault c = let a = c.args in
    ap (λ r. stepped (Err r)) c.at-in-Err-content_fault.ensures
    ∙ step_faulty 32 a.file.now a.c _ c.in_default.ensures refl _ c.read_at-r.ensures _ c.rises_after.ensures _ c.in-Err-content_fault.ensures (number_ne0 _)

pub returns : goal.returns
returns c = let a = c.args in
    step_took 32 a.file.now a.c _ c.in_default.ensures refl _ c.read_at-r.ensures _ c.rises_after.ensures _ c.in_default-content_fault.ensures refl _ c.route_size.ensures.is _ c.prefix.ensures
