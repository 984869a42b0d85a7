use borrow.Author.Tests.{lt-ltb, le-ltb}
use mathlib.Core.Path.{ap, ◌∙◌}
use mathlib.Core.List.{List}
use native.Mathlib.Omega.{arith}
use Prim.Native.Nat.{ℕ, ◌-◌}
use Rattle.table_rows.specs.Words.{five_words}
use Rattle.table_rules.specs.Withdraw.{Cut, close_gap, withdrawn}
use Rattle.table_rules.specs.declared.Row.{Row}
use Rattle.table_change.proofs.refilling.take_route.Goals as goal

pub returns-then-n-gt1 : goal.returns-then-n-gt1
unfolding withdrawn
returns-then-n-gt1 c = let d = c.args in
    rw (lt-ltb 1 d.n c.if-n-gt1.true)
    (c.close_gap.ensures ∙ ap (λ (z : Cut (List ℕ)). close_gap five_words 32 z (d.n - 1)) c.cut_from-freed.ensures)

pub returns : goal.returns
unfolding withdrawn
returns c = let d = c.args in
    rw (le-ltb 1 d.n (omega arith)) (c.store_row.ensures ∙ ap (λ (x : Row). five_words.put d.rows.now 0 x) c.leaf_row.ensures)
