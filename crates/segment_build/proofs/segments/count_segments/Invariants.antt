use Prim.Native.Nat.{◌-◌, ◌≤◌}
use Rattle.routes.specs.Routes.{route_at, route_count}
use Rattle.segment_build.specs.Needs.{Walked}
use Rattle.segment_build.proofs.segments.count_segments.Given as goal

abbrev pub invariant-loop-s : goal.invariant-loop-s
invariant-loop-s l = (l.i ≤ route_count l.list) × Walked (route_at l.list) (route_count l.list) l.runs l.i l.walk

abbrev pub decreases-loop-s : goal.decreases-loop-s
decreases-loop-s l = route_count l.list - l.i
