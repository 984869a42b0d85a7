use mathlib.Core.Path.{◌≡◌}
use Rattle.promise.specs.Over.{over}
use Rattle.count_make.specs.Adding.{noughts}
use Rattle.count_make.proofs.clear_counts.Given as goal

abbrev pub invariant-loop-port : goal.invariant-loop-port
invariant-loop-port l = l.counts ≡ over (noughts l.port) l.initial.counts
