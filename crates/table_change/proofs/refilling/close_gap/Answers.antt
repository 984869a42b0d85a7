use borrow.Author.Tests.{eq-eqb, ne_eqb}
use mathlib.Core.Path.{ap, ap₂, ◌∙◌}
use mathlib.Core.List.{List}
use Prim.Native.Nat.{ℕ}
use Rattle.table_rows.specs.Words.{five_words}
use Rattle.table_rules.specs.Withdraw.{close_gap}
use Rattle.table_rules.specs.declared.Row.{Row}
use Rattle.table_change.proofs.refilling.close_gap.Goals as goal

pub returns-then-freed-last : goal.returns-then-freed-last
unfolding close_gap
returns-then-freed-last c = let d = c.args in
    rw (eq-eqb d.freed d.last c.if-freed-last.true) (c.store_row.ensures ∙ ap (λ (x : Row). five_words.put d.rows.now d.last x) c.leaf_row.ensures)

pub returns : goal.returns
unfolding close_gap
returns c = let d = c.args in
    rw (ne_eqb d.freed d.last c.if-freed-last.false)
    (c.store_row-2.ensures ∙ ap₂ (λ (v : List ℕ) (x : Row). five_words.put v d.last x) c.move_row.ensures c.leaf_row-2.ensures)
