use Rattle.table_rows.specs.Words.{capacity, row_at}
use Rattle.table_lookup.proofs.Search.{Searching}
use Rattle.table_lookup.proofs.lookup.Given as goal

abbrev pub invariant-loop-depth : goal.invariant-loop-depth
invariant-loop-depth l = Searching 32 (capacity l.rows) (row_at l.rows) l.n l.address l.depth l.row l.best
