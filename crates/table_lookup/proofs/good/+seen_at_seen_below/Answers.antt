use mathlib.Core.Path.{refl, ap, ◌∙◌}
use Rattle.table_lookup.specs.Below.{seen_in}
use Rattle.table_rows.specs.Words.{row_at}
use mathlib.Core.Bool.{true, false}
use native.Mathlib.Omega.{arith}
use borrow.Author.Tests.{eq-eqb, ne_eqb}
use Rattle.table_rules.proofs.Right.{child_lt}
use Rattle.table_lookup.proofs.GoodWalk.{half_valid, half_len, half_rows, to_wrong, to_last, to_left_wrong, to_right_wrong, to_join}
use Prim.Native.Nat.{◌<◌}
use Rattle.table_lookup.proofs.good.+seen_at_seen_below.Goals as goal

pub seen_at-whole_row-x-requires : goal.seen_at-whole_row-x-requires
seen_at-whole_row-x-requires t c = omega arith

pub seen_at-returns-then-is_wrong : goal.seen_at-returns-then-is_wrong
seen_at-returns-then-is_wrong t c = to_wrong 32 _ _ c.args.path _ c.requires.2 _ c.whole_row-x.ensures _ c.is_wrong.ensures c.if-is_wrong.true

pub seen_at-returns-then-path-eq32 : goal.seen_at-returns-then-path-eq32
seen_at-returns-then-path-eq32 t c = to_last 32 _ _ c.args.path _ c.requires.2 _ c.whole_row-x.ensures _ c.is_wrong.ensures c.if-is_wrong.false c.if-path-eq32.true _ c.last_seen.ensures

pub seen_at-seen_below-requires : goal.seen_at-seen_below-requires
seen_at-seen_below-requires t c = let ok = c.requires.2 in
    let ne = c.if-path-eq32.false in
    let more : c.args.path.len < 32 = omega arith in
    let len = half_len 32 c.args.path more ok false _ c.left.ensures in
    let low = child_lt 32 c.whole_row-x.result c.args.n _ _ _ c.is_wrong.ensures c.if-is_wrong.false false in
    (omega arith, (low, c.requires.1, half_valid 32 c.args.path more ok false _ c.left.ensures))

pub seen_at-returns-in_err-left : goal.seen_at-returns-in_err-left
seen_at-returns-in_err-left t c = let ok = c.requires.2 in
    let ne = c.if-path-eq32.false in
    ap seen_in c.from_residual.ensures
    ∙ to_left_wrong 32 _ _ c.args.path _ ok _ c.whole_row-x.ensures _ c.is_wrong.ensures c.if-is_wrong.false (omega arith) _ c.left.ensures _ c.in_err-left.ensures refl

pub seen_at-seen_below-requires-2 : goal.seen_at-seen_below-requires-2
seen_at-seen_below-requires-2 t c = let ok = c.requires.2 in
    let ne = c.if-path-eq32.false in
    let more : c.args.path.len < 32 = omega arith in
    let len = half_len 32 c.args.path more ok true _ c.right.ensures in
    let low = child_lt 32 c.whole_row-x.result c.args.n _ _ _ c.is_wrong.ensures c.if-is_wrong.false true in
    (omega arith, (low, c.requires.1, half_valid 32 c.args.path more ok true _ c.right.ensures))

pub seen_at-returns-in_err-right : goal.seen_at-returns-in_err-right
seen_at-returns-in_err-right t c = let ok = c.requires.2 in
    let ne = c.if-path-eq32.false in
    ap seen_in c.from_residual-in_err-right.ensures
    ∙ to_right_wrong 32 _ _ c.args.path _ ok _ c.whole_row-x.ensures _ c.is_wrong.ensures c.if-is_wrong.false (omega arith) _ c.left.ensures _ c.in_ok-left.ensures _ c.right.ensures _ c.in_err-right.ensures refl refl

pub seen_at-seen_join-requires : goal.seen_at-seen_join-requires
seen_at-seen_join-requires t c = let ok = c.requires.2 in
    let ne = c.if-path-eq32.false in
    let x = c.whole_row-x.result in
    let M = row_at c.args.rows.now in
    let more : c.args.path.len < 32 = omega arith in (
      half_rows 32 M c.args.n c.args.path more ok false _ c.left.ensures x.left _ c.in_ok-left.ensures,
      half_rows 32 M c.args.n c.args.path more ok true _ c.right.ensures x.right _ c.in_ok-right.ensures,
    )

pub seen_at-returns : goal.seen_at-returns
seen_at-returns t c = let ok = c.requires.2 in
    let ne = c.if-path-eq32.false in
    to_join 32 _ _ c.args.path _ ok _ c.whole_row-x.ensures _ c.is_wrong.ensures c.if-is_wrong.false (omega arith) _ c.left.ensures _ c.in_ok-left.ensures _ c.right.ensures _ c.in_ok-right.ensures _ c.seen_join.ensures

pub seen_below-returns-then-child-eq0 : goal.seen_below-returns-then-child-eq0
seen_below-returns-then-child-eq0 t c = rw (eq-eqb _ 0 c.if-child-eq0.true)

pub seen_below-seen_at-requires : goal.seen_below-seen_at-requires
seen_below-seen_at-requires t c = (omega arith, c.requires)

pub seen_below-returns : goal.seen_below-returns
seen_below-returns t c = rw (ne_eqb _ 0 c.if-child-eq0.false) c.seen_at.ensures
