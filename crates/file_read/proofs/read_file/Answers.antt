use mathlib.Core.Path.{refl, ap, ◌∙◌}
use Rattle.std.proofs.Common.{Err}
use Rattle.std.proofs.lemmas.Result.{err_from_is_err_and}
use Rattle.promise.specs.Over.{outcome}
use Rattle.refusals.specs.Refusals.{answered}
use Rattle.refusals.proofs.Numbers.{number_ne0}
use Rattle.file_read.proofs.ReadCall.{read_refused, read_short, read_fits, read_done}
use Rattle.file_read.proofs.read_file.Goals as goal

pub returns-in_err-count : goal.returns-in_err-count
returns-in_err-count c = let a = c.args in
    let p = err_from_is_err_and c.from_residual.result c.from_residual.ensures.1 in
    rw (p.1, p.2) (read_refused 32 a.file.now a.list.now _ c.in_err-count.ensures (number_ne0 _))

pub returns-then-list-n : goal.returns-then-list-n
returns-then-list-n c = let a = c.args in
    ap (λ r. outcome (answered (Err r)) a.list.now) c.at.ensures
    ∙ read_short 32 a.file.now a.list.now _ c.in_ok-count.ensures refl c.if-list-n.true

pub fill_list-requires : goal.fill_list-requires
fill_list-requires c = let a = c.args in
    read_fits 32 a.file.now a.list.now _ c.in_ok-count.ensures refl c.if-list-n.false

pub returns : goal.returns
returns c = let a = c.args in
    read_done 32 a.file.now a.list.now _ c.in_ok-count.ensures refl _ c.if-list-n.false c.fill_list.ensures
