use mathlib.Core.Path.{ap, ◌∙◌}
use mathlib.Core.List.{List}
use Prim.Native.Nat.{ℕ}
use Rattle.table_rows.specs.Words.{five_words}
use Rattle.table_rules.specs.Withdraw.{relink}
use Rattle.table_rules.specs.declared.Row.{Row}
use Rattle.table_change.proofs.refilling.move_row.Goals as goal

pub returns : goal.returns
returns c = let d = c.args in
    let e = c.relink_from_root.ensures ∙ ap (λ (x : Row). relink five_words 32 32 d.rows.now 0 x.value d.last d.freed) c.row_at-x.ensures in
    c.store_row.ensures
    ∙ ap (λ (x : Row). five_words.put c.relink_from_root.new.rows d.freed x) c.row_at-moved.ensures
    ∙ ap (λ (v : List ℕ). five_words.put v d.freed (five_words.get v d.last)) e
