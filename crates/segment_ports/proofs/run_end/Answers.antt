use borrow.Author.Tests.{lt-ltb, le-ltb}
use Rattle.segment_ports.specs.RunSearch.{run_end}
use Rattle.segment_ports.proofs.run_end.Goals as goal

pub returns-then-run-runs : goal.returns-then-run-runs
unfolding run_end
returns-then-run-runs c = rw (lt-ltb _ _ c.if-run-runs.true)

pub returns-else-run-runs : goal.returns-else-run-runs
unfolding run_end
returns-else-run-runs c = rw (le-ltb _ _ c.if-run-runs.false)
