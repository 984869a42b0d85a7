use mathlib.Core.Path.{refl}
use native.Mathlib.Omega.{arith}
use Rattle.octets.proofs.Store.{digits_none, digits_more, digits_all}
use Rattle.octets.proofs.store_number.Goals as goal

pub loop-j-init : goal.loop-j-init
loop-j-init c = digits_none c.args.bytes.now c.args.at c.args.k c.args.x

pub bounds-bytes-at : goal.bounds-bytes-at
bounds-bytes-at c = omega (arith, c.loop-j.invariant.same)

pub loop-j-preserved : goal.loop-j-preserved
loop-j-preserved c = let a = c.args in
    digits_more a.bytes.now a.at a.k a.x c.requires.0 c.loop-j.bytes c.loop-j.j c.loop-j.invariant c.loop-j-test.true _ refl

pub shape_of-bytes : goal.shape_of-bytes
shape_of-bytes c = c.loop-j.invariant.same

pub returns : goal.returns
returns c = let a = c.args in
    digits_all a.bytes.now a.at a.k a.x c.requires.0 c.loop-j.bytes c.loop-j.j c.loop-j.invariant c.loop-j-test.false
