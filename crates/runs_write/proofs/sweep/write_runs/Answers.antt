use native.Mathlib.Omega.{arith}
use Rattle.runs_write.proofs.Answers.{sweepable_at_once, swept_few, write_runs_at_once}
use Rattle.runs_write.proofs.sweep.write_runs.Goals as goal

pub sweep-count-requires : goal.sweep-count-requires
sweep-count-requires c = sweepable_at_once c.requires c.if-n-room.true

pub overflow_cast-result : goal.overflow_cast-result
overflow_cast-result c = omega (arith, swept_few c.requires c.sweep-count.ensures)

pub returns-then-n-room : goal.returns-then-n-room
returns-then-n-room c = write_runs_at_once c.requires c.if-n-room.true c.sweep-count.ensures
