use Rattle.routes.specs.Routes.{route_at, route_count}
use Rattle.segment_build.specs.Needs.{Walked}
use Rattle.segment_build.proofs.segments.next_segment.Given as goal

abbrev pub invariant-loop-i : goal.invariant-loop-i
invariant-loop-i l = Walked (route_at l.list) (route_count l.list) l.runs l.i l.walk
