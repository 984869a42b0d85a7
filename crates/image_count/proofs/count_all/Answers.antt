use Prim.Native.Nat.{◌-◌, ◌/◌}
use native.Mathlib.Omega.{arith}
use native.Mathlib.Nat.{div-le_self}
use Rattle.routes.specs.Routes.{route_at}
use Rattle.image_stretch.specs.Count.{count_below}
use Rattle.image_count.proofs.Few.{count_below_few, nodes_few_lem}
use Rattle.image_count.proofs.CountLoop.{sum_none, sum_more, sum_all}
use borrow.Author.Rules.{rules}
use Rattle.image_count.proofs.count_all.Goals as goal

pub loop-i-init : goal.loop-i-init
loop-i-init c = let a = c.args in
    sum_none (count_below 32 (route_at a.list.now) a.n a.stride (32 / a.stride - 1) a.stride) a.n

pub overflow_add-count : goal.overflow_add-count
overflow_add-count c = let a = c.args in
    let l = c.loop-i in
    let R = route_at a.list.now in
    omega (arith, l.invariant, nodes_few_lem 32 R a.n a.stride (search rules), c.count_below-count.ensures, count_below_few 32 R a.n a.stride (32 / a.stride - 1) a.stride l.i, div-le_self 32 a.stride)

pub loop-i-preserved : goal.loop-i-preserved
loop-i-preserved c = let a = c.args in
    let l = c.loop-i in
    sum_more (count_below 32 (route_at a.list.now) a.n a.stride (32 / a.stride - 1) a.stride) a.n l.i l.count c.count_below-count.result _ (search rules) c.count_below-count.ensures l.invariant

pub returns : goal.returns
returns c = let a = c.args in
    let l = c.loop-i in
    sum_all (count_below 32 (route_at a.list.now) a.n a.stride (32 / a.stride - 1) a.stride) a.n l.i l.count _ (omega arith) l.invariant
