use Prim.Native.Nat.{◌-◌}
use borrow.Author.Rules.{rules}
use native.Mathlib.Omega.{arith}
use mathlib.Core.Path.{refl}
use Rattle.table_change.proofs.Held.{held_same, held_last, held_over, held_none, held_next}
use Rattle.table_change.proofs.sinking.held_from_root.Goals as goal

pub loop-left-init : goal.loop-left-init
loop-left-init c = refl

pub returns-then-is_same : goal.returns-then-is_same
returns-then-is_same c = let l = c.loop-left in
    held_same 32 _ _ l.left l.row _ l.invariant c.row_at-x.result c.row_at-x.ensures c.is_same.result c.is_same.ensures c.if-is_same.true

pub returns-then-outranks_row : goal.returns-then-outranks_row
returns-then-outranks_row c = let l = c.loop-left in
    held_over 32 _ _ l.left l.row _ l.invariant c.row_at-x.result c.row_at-x.ensures c.is_same.result c.is_same.ensures (search rules) c.if-is_same.false (31 - (l.left - 1)) (omega arith) c.outranks_row.result c.outranks_row.ensures c.if-outranks_row.true

pub returns-then-row-eq0 : goal.returns-then-row-eq0
returns-then-row-eq0 c = let l = c.loop-left in
    held_none 32 _ _ l.left l.row _ l.invariant c.row_at-x.result c.row_at-x.ensures c.is_same.result c.is_same.ensures (search rules) c.if-is_same.false (31 - (l.left - 1)) (omega arith) c.outranks_row.result c.outranks_row.ensures c.if-outranks_row.false c.bit_before.result c.bit_before.ensures c.child_of-row.result c.child_of-row.ensures c.if-row-eq0.true

pub loop-left-preserved : goal.loop-left-preserved
loop-left-preserved c = let l = c.loop-left in
    let x = c.row_at-x in
    held_next 32 _ _ l.left l.row _ l.invariant x.result x.ensures c.is_same.result c.is_same.ensures (search rules) c.if-is_same.false (31 - (l.left - 1)) (omega arith) c.outranks_row.result c.outranks_row.ensures c.if-outranks_row.false c.bit_before.result c.bit_before.ensures c.child_of-row.result c.child_of-row.ensures c.if-row-eq0.false

pub returns : goal.returns
returns c = let l = c.loop-left in
    held_last 32 _ _ l.left l.row _ l.invariant c.row_at.result c.row_at.ensures c.is_same-2.result c.is_same-2.ensures (omega arith)
