use Rattle.routes.specs.Routes.{route_at, route_count}
use Rattle.segment_build.proofs.Naming.{Naming}
use Rattle.segment_build.proofs.segments.name_lasts.Given as goal

abbrev pub invariant-loop-i : goal.invariant-loop-i
invariant-loop-i l = Naming (route_at l.list) (route_count l.list) l.x l.i l.next l.count l.entries
