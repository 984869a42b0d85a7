use Rattle.image_numbers.proofs.Slots.{slots_found, slots_pos}
use Rattle.image_lookup.proofs.Turns.{going_none, going_more, stride_off, turn_outside, turn_wide, turn_unbased, turn_leaf, turn_child, turn_none, shr-zero→lt, ones-le, ones_few}
use Rattle.std.proofs.Common.{sym, refl, ◌∙◌, mod-lt, arith, rules}
use Rattle.image_lookup.proofs.descend.Goals as goal

pub loop-left-init : goal.loop-left-init
loop-left-init g c = let x = c.args in
    going_none 32 g.row.STRIDE x.nodes.now x.ports.now x.address c.requires

pub returns-then-node_count-at : goal.returns-then-node_count-at
returns-then-node_count-at g c = let x = c.args in
    let q = c.requires in
    let l = c.loop-left in
    let n = c.slots_of-slots in
    c.not_in_order.ensures
    ∙ (sym (l.invariant.same
    ∙ turn_outside g.row.STRIDE n.result (slots_found n.ensures.0 q) x.nodes.now x.ports.now x.address l.at.0 l.reads l.left
    c.loop-left-test.true (omega (arith, c.node_count.ensures, c.if-node_count-at.true))))

pub returns-then-bitmap-slots-ne0 : goal.returns-then-bitmap-slots-ne0
returns-then-bitmap-slots-ne0 g c = let x = c.args in
    let q = c.requires in
    let l = c.loop-left in
    let n = c.slots_of-slots in
    let b = c.bitmap_of-bitmap in
    c.not_in_order-then-bitmap-slots-ne0.ensures
    ∙ (sym (l.invariant.same
    ∙ turn_wide g.row.STRIDE n.result (slots_found n.ensures.0 q) x.nodes.now x.ports.now x.address l.at.0 l.reads
    (record { positive = l.invariant.positive; within = search rules }) b.result b.ensures l.left
    c.loop-left-test.true c.if-bitmap-slots-ne0.true))

pub slots_before-before-requires : goal.slots_before-before-requires
slots_before-before-requires g c = (c.slots_of-slots.ensures.1, c.loop-left.invariant.positive, search rules)

pub returns-then-before-children : goal.returns-then-before-children
returns-then-before-children g c = let x = c.args in
    let q = c.requires in
    let l = c.loop-left in
    let n = c.slots_of-slots in
    let b = c.bitmap_of-bitmap in
    let nx = c.next_of-next in
    let sb = c.slots_before-before in
    let cb = c.children_before-children in
    c.not_in_order-then-before-children.ensures
    ∙ (sym (l.invariant.same
    ∙ turn_unbased g.row.STRIDE n.result (slots_found n.ensures.0 q) x.nodes.now x.ports.now x.address l.at.0 l.reads
    (record { positive = l.invariant.positive; within = search rules }) b.result b.ensures nx.result.0 sb.result cb.result
    (record { next_is = nx.ensures.0; low = nx.ensures.1; before_is = sb.ensures.0; few = sb.ensures.1; children_are = cb.ensures })
    l.left c.loop-left-test.true c.if-before-children.true))

pub overflow_mul-j : goal.overflow_mul-j
overflow_mul-j g c = let x = c.args in
    omega (arith, stride_off g.row.STRIDE c.loop-left.left c.loop-left-test.true)

pub overflow_shr-j : goal.overflow_shr-j
overflow_shr-j g c = let x = c.args in
    omega (arith, stride_off g.row.STRIDE c.loop-left.left c.loop-left-test.true)

pub nonzero_rem-j : goal.nonzero_rem-j
nonzero_rem-j g c = omega (arith, slots_pos c.slots_of-slots.ensures.0 c.requires)

pub ones_before-ones-requires : goal.ones_before-ones-requires
ones_before-ones-requires g c = let n = c.slots_of-slots in
    record { at_most16 = n.ensures.1; within = mod-lt _ (slots_pos n.ensures.0 c.requires); none_above = shr-zero→lt _ _ c.if-bitmap-slots-ne0.false }

pub is_leaf-requires : goal.is_leaf-requires
is_leaf-requires g c = let n = c.slots_of-slots in
    record { at_most16 = n.ensures.1; within = mod-lt _ (slots_pos n.ensures.0 c.requires); none_above = shr-zero→lt _ _ c.if-bitmap-slots-ne0.false }

pub leaf_of-requires : goal.leaf_of-requires
leaf_of-requires g c = let n = c.slots_of-slots in
    let sb = c.slots_before-before in
    let o = c.ones_before-ones in
    (c.if-before-children.false, sb.ensures.1, ones_few _ _ _ o.result o.ensures (mod-lt _ (slots_pos n.ensures.0 c.requires)) c.if-bitmap-slots-ne0.false n.ensures.1)

pub returns-then-is_leaf : goal.returns-then-is_leaf
returns-then-is_leaf g c = let x = c.args in
    let q = c.requires in
    let l = c.loop-left in
    let n = c.slots_of-slots in
    let b = c.bitmap_of-bitmap in
    let nx = c.next_of-next in
    let sb = c.slots_before-before in
    let cb = c.children_before-children in
    let o = c.ones_before-ones in
    let t = c.is_leaf in
    c.port_at.ensures
    ∙ (sym (l.invariant.same
    ∙ turn_leaf g.row.STRIDE n.result (slots_found n.ensures.0 q) x.nodes.now x.ports.now x.address l.at.0 l.reads
    (record { positive = l.invariant.positive; within = omega (arith, c.if-node_count-at.false, c.node_count.ensures) }) b.result b.ensures c.if-bitmap-slots-ne0.false
    nx.result.0 sb.result cb.result
    (record { next_is = nx.ensures.0; low = nx.ensures.1; before_is = sb.ensures.0; few = sb.ensures.1; children_are = cb.ensures })
    c.if-before-children.false l.left c.loop-left-test.true _ refl
    o.result o.ensures t.result t.ensures c.if-is_leaf.true c.leaf_of.result.0 c.leaf_of.ensures))

pub overflow_sub-j : goal.overflow_sub-j
overflow_sub-j g c = let n = c.slots_of-slots in
    let o = c.ones_before-ones in
    omega (arith, ones-le _ _ _ o.result o.ensures (mod-lt _ (slots_pos n.ensures.0 c.requires)) c.if-bitmap-slots-ne0.false)

pub child_of-at-requires : goal.child_of-at-requires
child_of-at-requires g c = c.next_of-next.ensures.1

pub loop-left-preserved : goal.loop-left-preserved
loop-left-preserved g c = let x = c.args in
    let q = c.requires in
    let l = c.loop-left in
    let n = c.slots_of-slots in
    let b = c.bitmap_of-bitmap in
    let nx = c.next_of-next in
    let sb = c.slots_before-before in
    let cb = c.children_before-children in
    let o = c.ones_before-ones in
    let t = c.is_leaf in
    let more = c.loop-left-test.true in
    going_more 32 g.row.STRIDE x.nodes.now x.ports.now x.address l.left l.at.0 l.reads c.child_of-at.result.0
    l.invariant more (omega (arith, l.invariant.positive, c.child_of-at.ensures, nx.ensures.0))
    (turn_child g.row.STRIDE n.result (slots_found n.ensures.0 q) x.nodes.now x.ports.now x.address l.at.0 l.reads
    (record { positive = l.invariant.positive; within = search rules }) b.result b.ensures c.if-bitmap-slots-ne0.false
    nx.result.0 sb.result cb.result
    (record { next_is = nx.ensures.0; low = nx.ensures.1; before_is = sb.ensures.0; few = sb.ensures.1; children_are = cb.ensures })
    c.if-before-children.false l.left more _ refl
    o.result o.ensures t.result t.ensures c.if-is_leaf.false c.child_of-at.result.0 c.child_of-at.ensures)

pub returns : goal.returns
returns g c = let x = c.args in
    let l = c.loop-left in
    c.not_in_order-2.ensures
    ∙ (sym (l.invariant.same
    ∙ turn_none g.row.STRIDE x.nodes.now x.ports.now x.address l.left l.at.0 l.reads c.loop-left-test.false))
