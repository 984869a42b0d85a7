use borrow.Author.Tests.{le-ltb}
use native.Mathlib.Omega.{arith}
use Rattle.table_rows.specs.Words.{row_count, row_at}
use Rattle.table_rows.proofs.row_at.Goals as goal

pub returns-else-r-rows : goal.returns-else-r-rows
unfolding row_at
returns-else-r-rows c = let d = c.args in
    let e = c.default.ensures in
    rw (le-ltb d.r (row_count d.rows.now) (omega arith))
    (λ i. record { value = e.0 i; len = e.1.0 i; port = e.1.1.0 i; left = e.1.1.1.0 i; right = e.1.1.1.1 i })
