use mathlib.Core.Path.{ap, ◌∙◌}
use native.Mathlib.Omega.{arith}
use Rattle.std.proofs.Common.{Err}
use Rattle.promise.specs.Over.{outcome}
use Rattle.refusals.specs.Refusals.{answered}
use Rattle.refusals.specs.declared.Refusal.{Refusal}
use Rattle.runs_write.proofs.Answers.{sweepable_to_count, swept_few, write_runs_short, write_runs_done}
use Rattle.runs_write.proofs.sweep.write_counted.Goals as goal

pub sweep-count-requires : goal.sweep-count-requires
sweep-count-requires c = sweepable_to_count _ c.requires

pub returns-then-runs-count : goal.returns-then-runs-count
returns-then-runs-count c = ap (λ (r : Refusal). outcome (answered (Err r)) c.sweep-count.new.runs) c.at.ensures
    ∙ write_runs_short c.sweep-count.ensures c.if-runs-count.true

pub overflow_cast-result : goal.overflow_cast-result
overflow_cast-result c = omega (arith, swept_few c.requires c.sweep-count.ensures)

pub returns : goal.returns
returns c = write_runs_done c.sweep-count.ensures c.if-runs-count.false c.sweep.ensures
