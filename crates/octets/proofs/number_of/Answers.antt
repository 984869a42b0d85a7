use native.Mathlib.Omega.{arith}
use Rattle.octets.proofs.Numbers.{number_none, number_more, number_room}
use mathlib.Core.Path.{◌≡◌}
use Rattle.octets.proofs.number_of.Goals as goal

pub loop-j-init : goal.loop-j-init
loop-j-init c = number_none c.args.bytes.now c.args.from

pub overflow_mul-sum : goal.overflow_mul-sum
overflow_mul-sum c = let l = c.loop-j in
    omega (arith, number_room c.args.bytes.now c.args.from l.j l.sum (omega arith) l.invariant)

pub overflow_add-sum : goal.overflow_add-sum
overflow_add-sum c = let l = c.loop-j in
    omega (arith, number_room c.args.bytes.now c.args.from l.j l.sum (omega arith) l.invariant, c.wide.ensures.small)

pub loop-j-preserved : goal.loop-j-preserved
loop-j-preserved c = let l = c.loop-j in
    number_more c.args.bytes.now c.args.from l.j l.sum _ (omega arith) l.invariant c.wide.ensures

pub returns : goal.returns
returns c = let l = c.loop-j in
    let e : l.j ≡ c.args.k = omega arith in
    rw e at l.invariant
