use mathlib.Core.Path.{refl}
use Rattle.runs_write.proofs.sweep.end_run.Goals as goal

pub returns-then-write : goal.returns-then-write
returns-then-write c = record { next_is_lem = refl; written = rw c.if-write.true refl }
