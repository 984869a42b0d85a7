use mathlib.Core.Path.{◌∙◌}
use Rattle.std.proofs.lemmas.Result.{err_from_is_err_and}
use Rattle.refusals.proofs.Numbers.{number_ne0}
use Rattle.table_lookup.proofs.Checked.{checked_good, checked_wrong}
use Rattle.table_update.proofs.Answers.{announce_fault, announce_good, announce_wrong}
use Rattle.table_rows.specs.Words.{five_words, capacity, row_at}
use Rattle.table_update.proofs.announce.Goals as goal

pub returns-in_err-route_fault : goal.returns-in_err-route_fault
returns-in_err-route_fault c = let d = c.args in
    let p = err_from_is_err_and c.from_residual.result c.from_residual.ensures.1 in
    rw (p.1, p.2) (announce_fault five_words 32 d.rows.now d.n d.q _ c.in_err-route_fault.ensures (number_ne0 _))

pub returns-in_err-check : goal.returns-in_err-check
returns-in_err-check c = let d = c.args in
    let p = err_from_is_err_and c.from_residual-in_err-check.result c.from_residual-in_err-check.ensures.1 in
    let wrong = checked_wrong 32 (capacity d.rows.now) (row_at d.rows.now) d.n _ _ c.in_err-check.ensures in
    rw (p.1, p.2) (announce_wrong five_words 32 d.rows.now d.n d.q c.in_ok-route_fault.ensures _ _ wrong)

pub returns : goal.returns
returns c = let d = c.args in
    c.announce_in.ensures
    ∙ announce_good five_words 32 d.rows.now d.n d.q c.in_ok-route_fault.ensures (checked_good 32 (capacity d.rows.now) (row_at d.rows.now) d.n c.in_ok-check.ensures)
