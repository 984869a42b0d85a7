use borrow.Author.Rules.{rules}
use native.Mathlib.Omega.{arith}
use mathlib.Core.Path.{refl}
use Rattle.table_rows.specs.Words.{five_words}
use Rattle.table_change.proofs.Withdraw.{relink_done, relink_here, relink_on}
use Rattle.table_change.proofs.refilling.relink_from_root.Goals as goal

pub loop-left-init : goal.loop-left-init
loop-left-init c = refl

pub returns-then-child-last : goal.returns-then-child-last
returns-then-child-last c = let l = c.loop-left in
    let d = c.args in
    relink_here five_words 32 l.rows d.value d.last d.freed l.left l.row _ l.invariant (search rules) c.row_at-x.result c.row_at-x.ensures c.bit_before-right.result c.bit_before-right.ensures c.child_of-child.result c.child_of-child.ensures c.if-child-last.true c.with_child.result c.with_child.ensures _ c.store_row.ensures

pub loop-left-preserved : goal.loop-left-preserved
loop-left-preserved c = let l = c.loop-left in
    let d = c.args in
    relink_on five_words 32 l.rows d.value d.last d.freed l.left l.row _ l.invariant (search rules) c.row_at-x.result c.row_at-x.ensures c.bit_before-right.result c.bit_before-right.ensures c.child_of-child.result c.child_of-child.ensures c.if-child-last.false

pub returns : goal.returns
returns c = let l = c.loop-left in
    let d = c.args in
    relink_done five_words 32 l.rows d.value d.last d.freed l.left l.row _ l.invariant (omega arith)
