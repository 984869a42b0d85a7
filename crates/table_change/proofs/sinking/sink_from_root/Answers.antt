use borrow.Author.Rules.{rules}
use native.Mathlib.Omega.{arith}
use mathlib.Core.Path.{refl, ap, ◌∙◌}
use Rattle.table_rows.specs.Words.{five_words}
use Rattle.table_rules.specs.declared.Row.{Row}
use Rattle.table_change.proofs.Announce.{sinking_same, sinking_last, sinking_leaf, sinking_more}
use Rattle.table_change.proofs.sinking.sink_from_root.Goals as goal

pub loop-left-init : goal.loop-left-init
loop-left-init c = refl

-- the prefix is at the row that the loop has come to
pub returns-then-is_same : goal.returns-then-is_same
returns-then-is_same c = let l = c.loop-left in
    sinking_same five_words 32 _ l.rows _ _ l.q l.left l.row l.invariant _ c.row_at-x.ensures _ c.is_same.ensures c.if-is_same.true _
    (c.store_row.ensures ∙ ap (λ (z : Row). five_words.put l.rows l.row z) c.with_route.ensures)

pub returns-then-plan-eq0 : goal.returns-then-plan-eq0
returns-then-plan-eq0 c = let l = c.loop-left in
    sinking_leaf five_words 32 _ l.rows _ _ l.q l.left l.row l.invariant c.row_at-x.result c.row_at-x.ensures c.is_same.result c.is_same.ensures (search rules) c.if-is_same.false c.plan_for-plan.result c.plan_for-plan.ensures c.if-plan-eq0.true _ c.add_leaf.ensures

pub loop-left-preserved : goal.loop-left-preserved
loop-left-preserved c = let l = c.loop-left in
    sinking_more five_words 32 _ l.rows _ _ l.q l.left l.row l.invariant c.row_at-x.result c.row_at-x.ensures c.is_same.result c.is_same.ensures (search rules) c.if-is_same.false c.plan_for-plan.result c.plan_for-plan.ensures c.if-plan-eq0.false _ c.store_row-in-loop-left.ensures

-- the prefix is at the row that the loop has come to
pub returns-then-is_same-2 : goal.returns-then-is_same-2
returns-then-is_same-2 c = let l = c.loop-left in
    sinking_same five_words 32 _ l.rows _ _ l.q l.left l.row l.invariant _ c.row_at-x-2.ensures _ c.is_same-2.ensures c.if-is_same-2.true _
    (c.store_row-then-is_same-2.ensures ∙ ap (λ (z : Row). five_words.put l.rows l.row z) c.with_route-then-is_same-2.ensures)

pub returns-else-is_same-2 : goal.returns-else-is_same-2
returns-else-is_same-2 c = let l = c.loop-left in
    sinking_last five_words 32 _ l.rows _ _ l.q l.left l.row l.invariant c.row_at-x-2.result c.row_at-x-2.ensures c.is_same-2.result c.is_same-2.ensures (omega arith) c.if-is_same-2.false
