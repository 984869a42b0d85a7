use mathlib.Core.Path.{◌≡◌}
use Rattle.routes.specs.Routes.{route_at}
use Rattle.routes.specs.Scan.{last_match}
use Rattle.routes.proofs.scan_list.Given as goal

abbrev pub invariant-loop-i : goal.invariant-loop-i
invariant-loop-i l = l.port ≡ last_match 32 (route_at l.list) l.i l.address
