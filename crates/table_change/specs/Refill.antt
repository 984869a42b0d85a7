-- Defines one step of a withdrawal as the code takes it: RULES, "Withdraw". Assumes nothing.
use Rattle.std.specs.Prelude.{cond, ℕ}
use Rattle.routes.specs.declared.Route.{Route}
use Rattle.table_rules.specs.Rows.{Mem, child, route_of}
use Rattle.bits.specs.Bits.{bit_before}
use Rattle.table_rules.specs.Announce.{is_same}
use Rattle.table_rules.specs.Withdraw.{best_below, Cut}
use Rattle.table_rules.specs.declared.Row.{Row}
use Rattle.table_change.specs.declared.refilling.Refill.{Refill}

-- with k bits after the next one
abbrev pub refill_of : Row → ℕ → Route → Route → Refill
refill_of x k holder taken =
    record { holder = holder; taken = taken; right = bit_before taken.value k; child = child x (bit_before taken.value k) }

-- where the row holds the route the best from below takes its place; else it keeps its own
abbrev pub refill_at : ℕ → Mem → Row → ℕ → Route → Refill
refill_at w M x k q = refill_of x k (cond (is_same q x) (best_below w M k x) (route_of x)) (cond (is_same q x) (best_below w M k x) q)

-- the rows left, and the row freed
abbrev pub cut_as : {S : Type 0} → S → ℕ → Cut S
cut_as s freed = record { rows = s; freed = freed }
