use borrow.Author.Tests.{lt-ltb, le-ltb}
use native.Mathlib.Omega.{arith}
use Rattle.table_rows.specs.Words.{row_count, store_row}
use Rattle.table_rows.proofs.store_row.Goals as goal

pub returns-then-r-rows : goal.returns-then-r-rows
unfolding store_row
returns-then-r-rows c = let d = c.args in rw (lt-ltb d.r (row_count d.rows.now) (omega arith))

pub returns-else-r-rows : goal.returns-else-r-rows
unfolding store_row
returns-else-r-rows c = let d = c.args in rw (le-ltb d.r (row_count d.rows.now) (omega arith))
