use mathlib.Core.Path.{refl, sym, ◌∙◌}
use lib.ListN.{length-set}
use Rattle.entries.proofs.Filled.{stretch_more, stretch_none, filled_within, filled_past}
use Rattle.entries.proofs.fill.Goals as goal

pub returns-then-store-past : goal.returns-then-store-past
returns-then-store-past c = sym (filled_past _ _ _ _ c.if-store-past.true)

pub loop-i-init : goal.loop-i-init
loop-i-init c = (refl, refl)

pub loop-i-preserved : goal.loop-i-preserved
loop-i-preserved c = let a = c.args in
    let l = c.loop-i in
    (length-set l.store l.i a.entry ∙ l.invariant.0, stretch_more l.store l.i a.past a.entry c.loop-i-test.true ∙ l.invariant.1)

pub returns : goal.returns
returns c = let a = c.args in
    let l = c.loop-i in
    sym (stretch_none l.store l.i a.past a.entry c.loop-i-test.false) ∙ l.invariant.1
    ∙ sym (filled_within a.store.now a.from a.past a.entry c.if-store-past.false)
