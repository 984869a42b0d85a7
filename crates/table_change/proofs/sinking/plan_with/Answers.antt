use Rattle.table_change.proofs.Held.{plan_with_is}
use Rattle.table_change.proofs.sinking.plan_with.Goals as goal

pub returns : goal.returns
returns c = let a = c.args in
    plan_with_is a.x a.left a.holder a.lower c.with_route.result c.bit_before-right.result c.child_of.result
    c.with_route.ensures c.bit_before-right.ensures c.child_of.ensures
