use mathlib.Core.Path.{◌≡◌}
use Prim.Native.Nat.{◌-◌}
use Rattle.routes.specs.Routes.{route_at}
use Rattle.routes.specs.Check.{fault_at, first_fault, list_check}
use Rattle.routes.proofs.check_list.Given as goal

abbrev pub invariant-loop-i : goal.invariant-loop-i
invariant-loop-i l = list_check 32 l.list ≡ first_fault (fault_at 32 (route_at l.list)) (l.n - l.i) l.i
