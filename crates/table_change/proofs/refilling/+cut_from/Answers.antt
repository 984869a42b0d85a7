use borrow.Author.Rules.{rules}
use Rattle.table_rows.specs.Words.{five_words}
use Rattle.table_change.proofs.Withdraw.{cut_none, cut_last, cut_on_lem}
use Rattle.table_change.proofs.refilling.+cut_from.Goals as goal

pub returns-then-left-eq0 : goal.returns-then-left-eq0
returns-then-left-eq0 t c = let d = c.args in
    cut_none five_words 32 d.rows.now d.left d.row d.q c.if-left-eq0.true

pub returns-then-is_last : goal.returns-then-is_last
returns-then-is_last t c = let d = c.args in
    cut_last five_words 32 d.rows.now d.left d.row d.q c.if-left-eq0.false c.row_at-x.result c.row_at-x.ensures c.refill_for-step.result c.refill_for-step.ensures
    c.with_route-held.result c.with_route-held.ensures c.row_at.result c.row_at.ensures c.is_last.result c.is_last.ensures c.if-is_last.true
    c.with_child.result c.with_child.ensures _ c.store_row.ensures

pub cut_from-requires : goal.cut_from-requires
cut_from-requires t c = let p = c.requires in
    let ne = c.if-left-eq0.false in
    (search rules, search rules)

pub returns : goal.returns
returns t c = let d = c.args in
    cut_on_lem five_words 32 d.rows.now d.left d.row d.q c.if-left-eq0.false c.row_at-x.result c.row_at-x.ensures c.refill_for-step.result c.refill_for-step.ensures
    c.with_route-held.result c.with_route-held.ensures c.row_at.result c.row_at.ensures c.is_last.result c.is_last.ensures c.if-is_last.false
    _ c.store_row-2.ensures _ c.cut_from.ensures
