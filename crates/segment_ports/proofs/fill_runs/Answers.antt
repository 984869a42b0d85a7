use mathlib.Core.Path.{refl}
use native.Mathlib.Omega.{arith}
use Rattle.segment_ports.proofs.Fills.{filled_none, block_lt, from_block, goes_on_lem, filled_more, filled_length, filled_all}
use Rattle.segment_ports.proofs.fill_runs.Goals as goal

pub loop-k-init : goal.loop-k-init
loop-k-init c = let a = c.args in
    filled_none a.runs.now a.entries.now a.from a.block a.shift _ c.requires refl

pub overflow_add-block : goal.overflow_add-block
overflow_add-block c = omega (arith, c.requires.few)

pub first_of-requires : goal.first_of-requires
first_of-requires c = let a = c.args in
    (c.requires.small, block_lt a.runs.now a.entries.now a.from a.block a.shift _ c.requires refl _ (omega arith))

pub past_of-past-requires : goal.past_of-past-requires
past_of-past-requires c = let a = c.args in
    (c.requires, from_block a.runs.now a.entries.now a.from a.block a.shift _ c.requires refl c.loop-k.invariant c.loop-k-test.true _ _ c.first_of.ensures c.run_of-run.ensures)

pub loop-k-smaller : goal.loop-k-smaller
loop-k-smaller c = let a = c.args in
    omega (arith, goes_on_lem a.runs.now a.entries.now a.from a.block a.shift _ c.requires refl c.loop-k.invariant c.loop-k-test.true _ _ c.first_of.ensures c.run_of-run.ensures _ c.past_of-past.ensures)

pub loop-k-preserved : goal.loop-k-preserved
loop-k-preserved c = let a = c.args in
    filled_more a.runs.now a.entries.now a.from a.block a.shift _ c.requires refl c.loop-k.invariant c.loop-k-test.true _ _ c.first_of.ensures c.run_of-run.ensures _ c.past_of-past.ensures _ _ c.run_port.ensures c.fill.ensures

pub shape_of-entries : goal.shape_of-entries
shape_of-entries c = let a = c.args in
    filled_length a.runs.now a.entries.now a.from a.block a.shift _ c.requires refl c.loop-k.invariant

pub returns : goal.returns
returns c = let a = c.args in
    filled_all a.runs.now a.entries.now a.from a.block a.shift _ c.requires refl c.loop-k.invariant c.loop-k-test.false
