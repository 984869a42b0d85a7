use Rattle.runs_write.proofs.Writing.{turned_begun, turned_stays, turned_ends}
use Rattle.runs_write.proofs.sweep.turn_to.Goals as goal

pub returns-then-run-port : goal.returns-then-run-port
returns-then-run-port c = turned_stays c.if-run-port.true

pub overflow_sub-run : goal.overflow_sub-run
overflow_sub-run c = let a = c.args in turned_begun a.run a.port c.if-run-port.false

pub returns : goal.returns
returns c = turned_ends c.if-run-port.false c.end_run-count.ensures
