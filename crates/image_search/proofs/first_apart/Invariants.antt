use mathlib.Core.Path.{◌≡◌}
use Prim.Native.Nat.{◌-◌, ◌≤◌}
use Rattle.routes.specs.Routes.{route_at}
use Rattle.image_stretch.specs.Stretches.{past, under}
use Rattle.image_search.proofs.first_apart.Given as goal

abbrev pub invariant-loop-i : goal.invariant-loop-i
invariant-loop-i l = (l.i - l.lo ≤ l.hi - l.lo)
    × (past (under 32 (route_at l.list) l.place.value l.place.len) (l.hi - l.i) l.i ≡ past (under 32 (route_at l.list) l.place.value l.place.len) (l.hi - l.lo) l.lo)
