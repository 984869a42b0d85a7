use native.Mathlib.Omega.{arith}
use Rattle.table_lookup.proofs.Search.{lookup_past, lookup_none, lookup_starts, lookup_ends, to_wrong, to_ends, to_stop, to_next}
use Rattle.table_lookup.proofs.lookup.Goals as goal

pub returns-then-capacity_of-n : goal.returns-then-capacity_of-n
returns-then-capacity_of-n c = lookup_past 32 _ _ _ _ (omega arith)

pub returns-then-n-eq0 : goal.returns-then-n-eq0
returns-then-n-eq0 c = lookup_none 32 _ _ _ _ (omega arith) c.if-n-eq0.true

pub loop-depth-init : goal.loop-depth-init
loop-depth-init c = lookup_starts 32 _ _ _ _ (omega arith) c.if-n-eq0.false

pub whole_row-x-requires : goal.whole_row-x-requires
whole_row-x-requires c = omega arith

pub returns-then-is_wrong : goal.returns-then-is_wrong
returns-then-is_wrong c = to_wrong 32 _ _ _ _ _ _ _ c.loop-depth.invariant _ c.whole_row-x.ensures (omega arith) _ c.is_wrong.ensures c.if-is_wrong.true

pub returns-then-matched-depth : goal.returns-then-matched-depth
returns-then-matched-depth c = to_ends 32 _ _ _ _ _ _ _ c.loop-depth.invariant _ c.whole_row-x.ensures (omega arith) _ c.is_wrong.ensures c.if-is_wrong.false _ c.row_matches-matched.ensures c.if-matched-depth.true

pub returns-then-row-eq0 : goal.returns-then-row-eq0
returns-then-row-eq0 c = to_stop 32 _ _ _ _ _ _ _ c.loop-depth.invariant _ c.whole_row-x.ensures (omega arith) _ c.is_wrong.ensures c.if-is_wrong.false _ c.row_matches-matched.ensures c.if-matched-depth.false _ c.better-best.ensures _ (λ h. omega arith) _ c.child_on-row.ensures c.if-row-eq0.true

pub loop-depth-preserved : goal.loop-depth-preserved
loop-depth-preserved c = to_next 32 _ _ _ _ _ _ _ c.loop-depth.invariant _ c.whole_row-x.ensures (omega arith) _ c.is_wrong.ensures c.if-is_wrong.false _ c.row_matches-matched.ensures c.if-matched-depth.false _ c.better-best.ensures _ (λ h. omega arith) _ c.child_on-row.ensures c.if-row-eq0.false

pub returns : goal.returns
returns c = lookup_ends 32 _ _ _ _ _ _ _ c.loop-depth.invariant (omega arith)
