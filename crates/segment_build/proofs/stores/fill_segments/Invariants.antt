use Prim.Native.Nat.{◌-◌, ◌≤◌}
use Rattle.routes.specs.Routes.{route_at, route_count}
use Rattle.segment_build.specs.Needs.{Walked, Stored}
use Rattle.segment_build.proofs.stores.fill_segments.Given as goal

abbrev pub invariant-loop-s : goal.invariant-loop-s
invariant-loop-s l = (l.i ≤ route_count l.list) × Walked (route_at l.list) (route_count l.list) l.runs l.i l.walk × Stored (route_at l.list) (route_count l.list) l.initial.first l.initial.packed l.initial.plain l.walk.next l.first l.packed l.plain

abbrev pub decreases-loop-s : goal.decreases-loop-s
decreases-loop-s l = route_count l.list - l.i
