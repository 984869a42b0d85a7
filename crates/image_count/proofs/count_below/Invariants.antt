use mathlib.Core.Path.{◌≡◌}
use Prim.Native.Nat.{◌+◌, ◌-◌, ◌*◌, ◌/◌}
use Rattle.routes.specs.Routes.{route_at}
use Rattle.image_stretch.specs.Count.{count_below}
use Rattle.image_count.proofs.count_below.Given as goal

abbrev pub invariant-loop-level : goal.invariant-loop-level
invariant-loop-level l = l.count + count_below 32 (route_at l.list) l.n l.stride (32 / l.stride - l.level) (l.stride * l.level) l.i ≡ count_below 32 (route_at l.list) l.n l.stride (32 / l.stride - 1) l.stride l.i
