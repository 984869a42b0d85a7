use native.Mathlib.Omega.{arith}
use Rattle.file_read.proofs.FillLoop.{filled_none, filled_entire, filled_next, filled_more}
use Rattle.file_read.proofs.fill_list.Goals as goal

pub loop-i-init : goal.loop-i-init
loop-i-init c = let a = c.args in
    filled_none 32 a.file.now a.list.now a.n

pub read_at-r-requires : goal.read_at-r-requires
read_at-r-requires c = let a = c.args in
    filled_entire 32 a.file.now a.list.now a.n c.requires _ _ _ c.loop-i.invariant c.loop-i-test.true

pub overflow_add-at : goal.overflow_add-at
overflow_add-at c = let a = c.args in
    omega (arith, filled_next 32 a.file.now a.list.now a.n c.requires _ _ _ c.loop-i.invariant c.loop-i-test.true _ _ c.read_at-r.ensures c.route_size-at.ensures.is)

pub loop-i-preserved : goal.loop-i-preserved
loop-i-preserved c = let a = c.args in
    filled_more 32 a.file.now a.list.now a.n c.requires _ _ _ c.loop-i.invariant c.loop-i-test.true _ _ _ c.read_at-r.ensures c.store_route.ensures c.route_size-at.ensures.is
