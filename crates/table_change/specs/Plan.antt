-- Defines one step of a sinking route as the code takes it: RULES, "Announce". Assumes nothing.
use Rattle.std.specs.Prelude.{ℕ, suc, ◌-◌, cond}
use Rattle.routes.specs.declared.Route.{Route}
use Rattle.table_rules.specs.Rows.{Layout, child, route_of, leaf_row, with_route, with_child}
use Rattle.bits.specs.Bits.{bit_before}
use Rattle.table_rules.specs.Announce.{outranks_row}
use Rattle.table_rules.specs.declared.Row.{Row}
use Rattle.table_change.specs.declared.sinking.Plan.{Plan}

-- with k bits after the next one
abbrev pub plan_by : Row → ℕ → Route → Route → Plan
plan_by x k upper lower =
    record { upper = with_route x upper; lower = lower; right = bit_before lower.value k; child = child x (bit_before lower.value k) }

abbrev pub plan_of : ℕ → Row → Route → ℕ → Plan
plan_of w x q k =
    plan_by x k (cond (outranks_row (w - suc k) q x) q (route_of x)) (cond (outranks_row (w - suc k) q x) (route_of x) q)

-- a new leaf in row n
abbrev pub leaf_into : {S : Type 0} → Layout S → S → ℕ → ℕ → Plan → S
leaf_into L s n r plan = L.put (L.put s r (with_child plan.upper plan.right n)) n (leaf_row plan.lower)
