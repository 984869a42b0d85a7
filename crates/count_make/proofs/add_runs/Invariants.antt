use mathlib.Core.Path.{◌≡◌}
use Prim.Native.Nat.{ℕ, ◌+◌, ◌-◌, ◌*◌, ◌^◌, ◌<◌}
use lib.ListN.{get_or}
use Rattle.lists.specs.Numbered.{list_of}
use Rattle.runs_rules.specs.Runs.{run_at}
use Rattle.count_rules.specs.Tally.{ports}
use Rattle.count_make.specs.Adding.{added_runs}
use Rattle.count_make.proofs.add_runs.Given as goal

abbrev pub invariant-loop-i : goal.invariant-loop-i
invariant-loop-i l = (added_runs l.counts (list_of (run_at l.runs) (l.k - l.i) l.i) ≡ added_runs l.initial.counts (list_of (run_at l.runs) l.k 0))
    × ((port : ℕ) → port < ports → get_or l.counts port 0 + (l.k - l.i) * 2 ^ 32 < 2 ^ 64)
