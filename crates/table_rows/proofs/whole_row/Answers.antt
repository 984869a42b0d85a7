use borrow.Author.Tests.{lt-ltb}
use native.Mathlib.Omega.{arith}
use Rattle.table_rows.specs.Words.{row_count, row_at}
use Rattle.table_rows.proofs.whole_row.Goals as goal

pub returns : goal.returns
unfolding row_at
returns c = let d = c.args in rw (lt-ltb d.r (row_count d.rows.now) (omega arith))
