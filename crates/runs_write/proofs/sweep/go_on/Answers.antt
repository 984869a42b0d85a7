use Rattle.runs_write.proofs.Writing.{gone_on_none, gone_on_turned}
use Rattle.runs_write.proofs.sweep.go_on.Goals as goal

pub returns-then-to-run : goal.returns-then-to-run
returns-then-to-run c = gone_on_none c.if-to-run.true

pub returns : goal.returns
returns c = gone_on_turned c.if-to-run.false c.turn_to-turned.ensures
