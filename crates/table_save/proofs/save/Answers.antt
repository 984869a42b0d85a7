use mathlib.Core.Path.{ap, ◌∙◌}
use native.Mathlib.Omega.{arith}
use Rattle.std.proofs.Common.{Err}
use Rattle.std.proofs.lemmas.Result.{err_from_is_err_and}
use Rattle.promise.specs.Over.{outcome}
use Rattle.refusals.specs.Refusals.{answered}
use Rattle.refusals.specs.declared.Refusal.{Refusal}
use Rattle.table_lookup.proofs.Checked.{checked_good, checked_wrong}
use Rattle.table_rows.specs.Words.{row_count, capacity, row_at}
use Rattle.table_save.proofs.SaveWalk.{save_refused, save_short, save_none, save_ready, save_done}
use Rattle.table_save.proofs.save.Goals as goal

pub returns-in_err-check : goal.returns-in_err-check
returns-in_err-check c = let a = c.args in
    let ws = a.rows.now in
    let p = err_from_is_err_and c.from_residual.result c.from_residual.ensures.1 in
    rw (p.1, p.2) (save_refused 32 (capacity ws) (row_at ws) a.n a.list.now _ _ (checked_wrong 32 (capacity ws) (row_at ws) a.n _ _ c.in_err-check.ensures))

pub returns-then-list-n : goal.returns-then-list-n
returns-then-list-n c = let a = c.args in
    let ws = a.rows.now in
    ap (λ (r : Refusal). outcome (answered (Err r)) a.list.now) c.at.ensures
    ∙ save_short 32 (capacity ws) (row_at ws) a.n a.list.now (checked_good 32 (capacity ws) (row_at ws) a.n c.in_ok-check.ensures) (omega arith)

pub returns-then-n-eq0 : goal.returns-then-n-eq0
returns-then-n-eq0 c = let a = c.args in
    let ws = a.rows.now in
    save_none 32 (capacity ws) (row_at ws) a.n a.list.now (checked_good 32 (capacity ws) (row_at ws) a.n c.in_ok-check.ensures) c.if-n-eq0.true

pub save_at-requires : goal.save_at-requires
save_at-requires c = let a = c.args in
    let ws = a.rows.now in
    let r = save_ready 32 (capacity ws) (row_at ws) a.n a.list.now (checked_good 32 (capacity ws) (row_at ws) a.n c.in_ok-check.ensures) c.if-n-eq0.false (row_count ws) (omega arith) (omega arith) in
    (r.0, omega (arith, r.1))

pub returns : goal.returns
returns c = let a = c.args in
    let ws = a.rows.now in
    let ne = c.if-n-eq0.false in
    let good = checked_good 32 (capacity ws) (row_at ws) a.n c.in_ok-check.ensures in
    let r = save_ready 32 (capacity ws) (row_at ws) a.n a.list.now good ne (row_count ws) (omega arith) (omega arith) in
    save_done 32 (capacity ws) (row_at ws) a.n a.list.now good ne (omega arith) r.1 _ _ c.save_at.ensures
