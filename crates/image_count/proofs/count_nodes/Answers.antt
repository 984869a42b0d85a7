use mathlib.Core.Path.{sym, ◌∙◌}
use borrow.Author.Tests.{leb-true}
use Rattle.lists.proofs.Tests.{both}
use Rattle.image_numbers.proofs.Slots.{stride_bounds}
use Rattle.image_count.proofs.Few.{counted_by_lem}
use Rattle.image_count.proofs.count_nodes.Goals as goal

pub count_all-requires : goal.count_all-requires
count_all-requires c = let t = both _ _ c.if-is_stride-n.true in
    let b = stride_bounds c.args.stride (sym c.is_stride.ensures ∙ t.0) in
    (b.0, b.1, leb-true _ _ t.1)

pub returns-then-is_stride-n : goal.returns-then-is_stride-n
returns-then-is_stride-n c = let a = c.args in
    c.count_all.ensures ∙ sym (counted_by_lem 32 a.list.now a.stride _ c.is_stride.ensures _ c.if-is_stride-n.true)

pub returns-else-is_stride-n : goal.returns-else-is_stride-n
returns-else-is_stride-n c = let a = c.args in
    sym (counted_by_lem 32 a.list.now a.stride _ c.is_stride.ensures _ c.if-is_stride-n.false)
