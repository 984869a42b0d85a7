use mathlib.Core.Path.{refl}
use mathlib.Core.Bool.{true, false}
use native.Mathlib.Omega.{arith}
use Rattle.segment_entries.proofs.Parts.{part_handed}
use Rattle.segment_entries.proofs.entries.Goals as goal

pub slice_bounds-result-end : goal.slice_bounds-result-end
slice_bounds-result-end c = omega (arith, rw c.if-p.true at c.part_of-p.ensures.within)

pub slice_bounds-result-end-else-p : goal.slice_bounds-result-end-else-p
slice_bounds-result-end-else-p c = omega (arith, rw c.if-p.false at c.part_of-p.ensures.within)

pub returns-then-p : goal.returns-then-p
returns-then-p c = let x = c.args in
    part_handed x.packed x.plain _ _ true _ c.part_of-p.ensures c.if-p.true refl refl

pub returns-else-p : goal.returns-else-p
returns-else-p c = let x = c.args in
    part_handed x.packed x.plain _ _ false _ c.part_of-p.ensures c.if-p.false refl refl
