use mathlib.Core.Path.{ap, ◌∙◌}
use native.Mathlib.Omega.{arith}
use Rattle.std.proofs.Common.{Err}
use Rattle.std.proofs.lemmas.Result.{err_from_is_err_and}
use Rattle.promise.specs.Over.{outcome}
use Rattle.refusals.proofs.Numbers.{number_ne0}
use Rattle.refusals.specs.Refusals.{answered}
use Rattle.refusals.specs.declared.Refusal.{Refusal}
use Rattle.table_update.proofs.FillLoop.{build_fault, build_few, build_full, build_done}
use Rattle.table_rows.specs.Words.{five_words}
use Rattle.table_update.proofs.build.Goals as goal

pub returns-in_err-check_list : goal.returns-in_err-check_list
returns-in_err-check_list c = let d = c.args in
    let p = err_from_is_err_and c.from_residual.result c.from_residual.ensures.1 in
    rw (p.1, p.2) (build_fault five_words 32 d.list.now d.rows.now _ c.in_err-check_list.ensures (number_ne0 _))

pub overflow_cast-n : goal.overflow_cast-n
overflow_cast-n c = let d = c.args in
    omega (arith, build_few five_words 32 d.list.now d.rows.now c.in_ok-check_list.ensures)

pub returns-then-capacity_of-n : goal.returns-then-capacity_of-n
returns-then-capacity_of-n c = let d = c.args in
    ap (λ (r : Refusal). outcome (answered (Err r)) d.rows.now) c.at.ensures
    ∙ build_full five_words 32 d.list.now d.rows.now c.in_ok-check_list.ensures _ c.capacity_of.ensures c.if-capacity_of-n.true

pub returns : goal.returns
returns c = let d = c.args in
    build_done five_words 32 d.list.now d.rows.now c.in_ok-check_list.ensures _ c.capacity_of.ensures c.if-capacity_of-n.false _ c.fill.ensures
