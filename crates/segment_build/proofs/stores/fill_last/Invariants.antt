use Rattle.routes.specs.Routes.{route_at, route_count}
use Rattle.segment_build.proofs.LastBlocks.{LastTo}
use Rattle.segment_build.proofs.stores.fill_last.Given as goal

abbrev pub invariant-loop-i : goal.invariant-loop-i
invariant-loop-i l = LastTo (route_at l.list) (route_count l.list) l.runs l.initial.last l.i l.next l.number l.run l.last
