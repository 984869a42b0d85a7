use mathlib.Core.Path.{refl}
use native.Mathlib.Omega.{arith}
use Rattle.std.proofs.lemmas.Result.{err_from_is_err_and}
use Rattle.refusals.proofs.Numbers.{number_ne0}
use Rattle.table_rows.specs.Words.{capacity, row_at}
use Rattle.runs_write.proofs.Saved.{saved_refused, saved_valid, saved_listed}
use Rattle.runs_write.proofs.table_runs.Goals as goal

pub returns-in_err-count : goal.returns-in_err-count
returns-in_err-count c = let a = c.args in
    let ws = a.rows.now in
    let p = err_from_is_err_and c.from_residual.result c.from_residual.ensures.1 in
    rw (p.1, p.2) (saved_refused 32 (capacity ws) (row_at ws) a.n (omega arith) _ refl c.in_err-count.ensures _ (number_ne0 _))

pub write_runs-requires : goal.write_runs-requires
write_runs-requires c = let a = c.args in
    let ws = a.rows.now in
    saved_valid 32 (capacity ws) (row_at ws) a.n (omega arith) _ refl c.in_ok-count.ensures refl

pub returns : goal.returns
returns c = let a = c.args in
    let ws = a.rows.now in
    saved_listed 32 (capacity ws) (row_at ws) a.n (omega arith) _ refl c.in_ok-count.ensures refl _ c.write_runs.ensures
