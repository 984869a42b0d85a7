use mathlib.Core.Path.{◌≡◌}
use Prim.Native.Nat.{◌-◌}
use Rattle.routes.specs.Routes.{route_at}
use Rattle.table_rows.specs.Words.{five_words}
use Rattle.table_update.specs.Calls.{built_from}
use Rattle.table_update.proofs.fill.Given as goal

abbrev pub invariant-loop-i : goal.invariant-loop-i
invariant-loop-i l = (built_from five_words 32 (route_at l.list) (l.fn.k - l.i) l.i l.rows ≡ built_from five_words 32 (route_at l.list) l.fn.k 0 l.initial.rows)
