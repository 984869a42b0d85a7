use borrow.Author.Tests.{lt-ltb, le-ltb}
use Rattle.segment_ports.specs.RunSearch.{run_port}
use Rattle.segment_ports.proofs.run_port.Goals as goal

pub returns-then-run-runs : goal.returns-then-run-runs
unfolding run_port
returns-then-run-runs c = rw (lt-ltb _ _ c.if-run-runs.true)

pub returns-else-run-runs : goal.returns-else-run-runs
unfolding run_port
returns-else-run-runs c = rw (le-ltb _ _ c.if-run-runs.false)
