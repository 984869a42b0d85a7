use Rattle.std.proofs.Common.{sym, arith}
use Rattle.std.proofs.lemmas.Result.{err_from_is_err_and}
use Rattle.image_rules.proofs.Strides.{strided}
use Rattle.image_numbers.proofs.Slots.{stride_of_lem, slots_found}
use Rattle.image_build.proofs.Answers.{leaves_few, build_wrong_stride, build_refused, build_no_nodes, build_no_ports, build_done, room_of}
use Rattle.image_build.proofs.build.Goals as goal

pub returns-then-not-is_stride : goal.returns-then-not-is_stride
returns-then-not-is_stride c = let a = c.args in
    build_wrong_stride 32 a.stride a.list.now a.nodes.now a.ports.now (sym c.if-not-is_stride.ensures) _ c.at.ensures

pub returns-in_err-check_list : goal.returns-in_err-check_list
returns-in_err-check_list c = let a = c.args in
    let p = err_from_is_err_and c.from_residual.result c.from_residual.ensures.1 in
    rw (p.1, p.2) (build_refused 32 a.stride a.list.now a.nodes.now a.ports.now (sym c.if-not-is_stride.ensures) _ c.in_err-check_list.ensures)

pub overflow_mul-leaves : goal.overflow_mul-leaves
overflow_mul-leaves c = omega (arith, (leaves_few 32 _ _ _ _ c.count_nodes-count.ensures c.slots_of-slots.ensures.1).1)

pub overflow_add-leaves : goal.overflow_add-leaves
overflow_add-leaves c = omega (arith, (leaves_few 32 _ _ _ _ c.count_nodes-count.ensures c.slots_of-slots.ensures.1).1)

pub overflow_mul-count : goal.overflow_mul-count
overflow_mul-count c = omega (arith, (leaves_few 32 _ _ _ _ c.count_nodes-count.ensures c.slots_of-slots.ensures.1).0)

pub returns-then-nodes-count : goal.returns-then-nodes-count
returns-then-nodes-count c = let a = c.args in
    let t = sym c.if-not-is_stride.ensures in
    build_no_nodes 32 a.stride a.list.now a.nodes.now a.ports.now t c.in_ok-check_list.ensures (strided a.stride t)
    (λ i. omega (arith, c.type_inv.list i)) _ _ c.count_nodes-count.ensures (slots_found c.slots_of-slots.ensures.0 (stride_of_lem a.stride t))
    c.if-nodes-count.true _ c.at-then-nodes-count.ensures

pub returns-then-ports-leaves : goal.returns-then-ports-leaves
returns-then-ports-leaves c = let a = c.args in
    let t = sym c.if-not-is_stride.ensures in
    build_no_ports 32 a.stride a.list.now a.nodes.now a.ports.now t c.in_ok-check_list.ensures (strided a.stride t)
    (λ i. omega (arith, c.type_inv.list i)) _ _ c.count_nodes-count.ensures (slots_found c.slots_of-slots.ensures.0 (stride_of_lem a.stride t))
    c.if-ports-leaves.true _ c.at-then-ports-leaves.ensures

pub write_image-requires : goal.write_image-requires
write_image-requires c = let a = c.args in
    let t = sym c.if-not-is_stride.ensures in
    room_of 32 a.stride a.list.now a.nodes.now a.ports.now t c.in_ok-check_list.ensures (strided a.stride t)
    (λ i. omega (arith, c.type_inv.list i)) _ _ c.count_nodes-count.ensures (slots_found c.slots_of-slots.ensures.0 (stride_of_lem a.stride t))
    c.slots_of-slots.ensures.1 (omega arith) c.if-nodes-count.false c.if-ports-leaves.false

pub overflow_cast-result : goal.overflow_cast-result
overflow_cast-result c = omega (arith, (leaves_few 32 _ _ _ _ c.count_nodes-count.ensures c.slots_of-slots.ensures.1).0)

pub overflow_cast-result-2 : goal.overflow_cast-result-2
overflow_cast-result-2 c = omega (arith, (leaves_few 32 _ _ _ _ c.count_nodes-count.ensures c.slots_of-slots.ensures.1).1)

pub returns : goal.returns
returns c = let a = c.args in
    let t = sym c.if-not-is_stride.ensures in
    build_done 32 a.stride a.list.now a.nodes.now a.ports.now t c.in_ok-check_list.ensures (strided a.stride t)
    (λ i. omega (arith, c.type_inv.list i)) _ _ c.count_nodes-count.ensures (slots_found c.slots_of-slots.ensures.0 (stride_of_lem a.stride t))
    c.if-nodes-count.false c.if-ports-leaves.false c.write_image.ensures.0 c.write_image.ensures.1
