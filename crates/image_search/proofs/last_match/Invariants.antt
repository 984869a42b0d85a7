use mathlib.Core.Path.{◌≡◌}
use Prim.Native.Nat.{◌-◌, ◌≤◌}
use Rattle.routes.specs.Routes.{route_at}
use Rattle.image_stretch.specs.Stretches.{last_from}
use Rattle.image_search.proofs.last_match.Given as goal

abbrev pub invariant-loop-i : goal.invariant-loop-i
invariant-loop-i l = (l.i - l.lo ≤ l.hi - l.lo) × (l.port ≡ last_from 32 (route_at l.list) l.address l.best l.lo (l.i - l.lo))
