use mathlib.Core.Path.{◌≡◌}
use mathlib.Core.Bool.{false}
use Rattle.count_update.proofs.Counts.{same_below}
use Rattle.count_update.proofs.counts_differ.Given as goal

abbrev pub invariant-loop-port : goal.invariant-loop-port
invariant-loop-port l = same_below l.counts l.fresh l.port ≡ false
