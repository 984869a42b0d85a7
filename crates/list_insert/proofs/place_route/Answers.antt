use mathlib.Core.Path.{◌∙◌}
use Rattle.list_insert.proofs.Loops.{placed_risen, placed_sunk}
use Rattle.list_insert.proofs.place_route.Goals as goal

pub returns-then-all_before : goal.returns-then-all_before
returns-then-all_before c = let a = c.args in
    c.rise_route.ensures
    ∙ placed_risen a.list.now a.at a.middle a.end a.q c.all_before.ensures c.if-all_before.true

pub returns : goal.returns
returns c = let a = c.args in
    c.sink_route.ensures
    ∙ placed_sunk a.list.now a.at a.middle a.end a.q c.all_before.ensures c.if-all_before.false
