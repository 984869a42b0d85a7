use Prim.Native.Nat.{◌+◌, ◌-◌, ◌*◌}
use Rattle.routes.specs.Routes.{route_at}
use Rattle.runs_write.proofs.Turns.{Sweeping}
use Rattle.runs_write.proofs.sweep.sweep.Given as goal

abbrev pub invariant-loop-start : goal.invariant-loop-start
invariant-loop-start l = Sweeping 32 (route_at l.list) l.n l.initial.runs l.write l.runs l.stack l.depth l.run l.i l.start

abbrev pub decreases-loop-start : goal.decreases-loop-start
decreases-loop-start l = 2 * (l.n - l.i) + l.depth
