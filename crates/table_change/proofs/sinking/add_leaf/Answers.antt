use mathlib.Core.Path.{ap, ap₂, ◌∙◌}
use mathlib.Core.List.{List}
use Prim.Native.Nat.{ℕ}
use Rattle.table_rows.specs.Words.{five_words}
use Rattle.table_rules.specs.declared.Row.{Row}
use Rattle.table_change.proofs.sinking.add_leaf.Goals as goal

pub returns : goal.returns
returns c = let a = c.args in
    c.store_row-2.ensures
    ∙ ap₂ (λ (ws : List ℕ) (y : Row). five_words.put ws a.n y)
    (c.store_row.ensures ∙ ap (λ (y : Row). five_words.put a.rows.now a.row y) c.with_child.ensures)
    c.leaf_row.ensures
