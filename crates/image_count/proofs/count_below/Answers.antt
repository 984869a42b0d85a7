use Prim.Native.Nat.{◌-◌, ◌*◌, ◌/◌, ◌≤◌}
use native.Mathlib.Omega.{arith}
use native.Mathlib.Nat.{div-le_self}
use Rattle.routes.specs.Routes.{route_at}
use Rattle.image_count.proofs.Few.{count_at_few, count_below_few}
use Rattle.image_count.proofs.CountLoop.{counted_one, count_level_none, count_level_more, count_below_past, count_below_none}
use Rattle.image_count.proofs.count_below.Goals as goal

pub loop-level-init : goal.loop-level-init
loop-level-init c = let a = c.args in
    count_level_none 32 (route_at a.list.now) a.n a.stride (32 / a.stride - 1) a.i

-- from its length on the route counts for none
pub returns-then-len-depth : goal.returns-then-len-depth
returns-then-len-depth c = let a = c.args in
    let r = c.route_at-len in
    let l = c.loop-level in
    count_below_past 32 (route_at a.list.now) a.n a.stride (32 / a.stride - l.level) (a.stride * l.level) a.i l.count _ r.result r.ensures c.if-len-depth.true l.invariant

pub overflow_add-count : goal.overflow_add-count
overflow_add-count c = let a = c.args in
    let l = c.loop-level in
    let R = route_at a.list.now in
    let one : c.from-count.result ≤ 1 = omega (arith, counted_one c.counts_at.result c.from-count.result _ c.from-count.ensures c.counts_at.ensures, count_at_few 32 R a.n (a.stride * l.level) a.i) in
    omega (arith, l.invariant, count_below_few 32 R a.n a.stride (32 / a.stride - 1) a.stride a.i, div-le_self 32 a.stride)

pub loop-level-preserved : goal.loop-level-preserved
loop-level-preserved c = let a = c.args in
    let l = c.loop-level in
    count_level_more 32 (route_at a.list.now) a.n a.stride l.level (32 / a.stride) a.i l.count c.from-count.result _ c.loop-level-test.true
    (counted_one c.counts_at.result c.from-count.result _ c.from-count.ensures c.counts_at.ensures) l.invariant

pub returns : goal.returns
returns c = let a = c.args in
    let l = c.loop-level in
    count_below_none 32 (route_at a.list.now) a.n a.stride (32 / a.stride - l.level) (a.stride * l.level) a.i l.count _ (omega arith) l.invariant
