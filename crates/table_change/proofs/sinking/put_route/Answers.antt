use borrow.Author.Tests.{eq-eqb, ne_eqb}
use mathlib.Core.Path.{ap, ◌∙◌}
use Rattle.table_rows.specs.Words.{five_words}
use Rattle.table_rules.specs.declared.Row.{Row}
use Rattle.table_rules.specs.Announce.{announced}
use Rattle.table_change.proofs.sinking.put_route.Goals as goal

pub returns-then-n-eq0 : goal.returns-then-n-eq0
unfolding announced
returns-then-n-eq0 c = let d = c.args in
    rw (eq-eqb d.n 0 c.if-n-eq0.true) (c.store_row.ensures ∙ ap (λ (x : Row). five_words.put d.rows.now 0 x) c.leaf_row.ensures)

pub returns : goal.returns
unfolding announced
returns c = let d = c.args in
    rw (ne_eqb d.n 0 c.if-n-eq0.false) c.sink_from_root.ensures
