use mathlib.Core.Path.{◌≡◌}
use Prim.Native.Nat.{◌+◌, ◌-◌, ◌/◌}
use Rattle.routes.specs.Routes.{route_at}
use Rattle.image_stretch.specs.Count.{count_below, sum_of, nodes_count}
use Rattle.image_count.proofs.count_all.Given as goal

abbrev pub invariant-loop-i : goal.invariant-loop-i
invariant-loop-i l = l.count + sum_of (count_below 32 (route_at l.list) l.n l.stride (32 / l.stride - 1) l.stride) (l.n - l.i) l.i ≡ nodes_count 32 (route_at l.list) l.n l.stride
