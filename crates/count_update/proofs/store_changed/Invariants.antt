use mathlib.Core.Path.{◌≡◌}
use lib.ListN.{take}
use Rattle.promise.specs.Over.{over}
use Rattle.count_update.proofs.store_changed.Given as goal

abbrev pub invariant-loop-port : goal.invariant-loop-port
invariant-loop-port l = l.counts ≡ over (take l.port l.fresh) l.initial.counts
