use mathlib.Core.Path.{refl, ap, ◌∙◌}
use Rattle.std.proofs.Common.{Err}
use Rattle.std.proofs.lemmas.Result.{err_from_is_err_and}
use Rattle.promise.specs.Over.{outcome}
use Rattle.refusals.specs.Refusals.{answered}
use Rattle.refusals.proofs.Numbers.{number_ne0}
use Rattle.file_write.proofs.WriteCall.{write_refused, write_short, write_all}
use Rattle.file_write.proofs.write_file.Goals as goal

pub returns-in_err-check_list : goal.returns-in_err-check_list
returns-in_err-check_list c = let a = c.args in
    let p = err_from_is_err_and c.from_residual.result c.from_residual.ensures.1 in
    rw (p.1, p.2) (write_refused 32 a.list.now a.file.now _ c.in_err-check_list.ensures (number_ne0 _))

pub returns-then-file-size : goal.returns-then-file-size
returns-then-file-size c = let a = c.args in
    ap (λ r. outcome (answered (Err r)) a.file.now) c.at.ensures
    ∙ write_short 32 a.list.now a.file.now _ c.in_ok-check_list.ensures refl _ c.body_size-size.ensures c.if-file-size.true

pub returns : goal.returns
returns c = let a = c.args in
    write_all 32 a.list.now a.file.now _ c.in_ok-check_list.ensures refl _ c.body_size-size.ensures c.if-file-size.false _ c.put_head.ensures _ c.put_body.ensures
