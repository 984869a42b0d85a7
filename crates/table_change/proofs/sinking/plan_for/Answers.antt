use mathlib.Core.Path.{◌∙◌}
use Prim.Native.Nat.{◌-◌}
use native.Mathlib.Omega.{arith}
use Rattle.table_change.proofs.Held.{plan_over, plan_under}
use Rattle.table_change.proofs.sinking.plan_for.Goals as goal

pub returns-then-outranks_row : goal.returns-then-outranks_row
returns-then-outranks_row c = let a = c.args in
    c.plan_with.ensures
    ∙ plan_over 32 a.x a.q a.left (31 - a.left) c.outranks_row.result (omega arith) c.outranks_row.ensures c.route_of.result
    c.route_of.ensures c.if-outranks_row.true

pub returns : goal.returns
returns c = let a = c.args in
    c.plan_with-2.ensures
    ∙ plan_under 32 a.x a.q a.left (31 - a.left) c.outranks_row.result (omega arith) c.outranks_row.ensures c.route_of-2.result
    c.route_of-2.ensures c.if-outranks_row.false
