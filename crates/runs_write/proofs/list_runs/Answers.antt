use mathlib.Core.Path.{refl}
use native.Mathlib.Omega.{arith}
use Rattle.std.proofs.lemmas.Result.{err_from_is_err_and}
use Rattle.refusals.proofs.Numbers.{number_ne0}
use Rattle.runs_write.proofs.Answers.{list_runs_checked, list_runs_valid, list_runs_listed}
use Rattle.runs_write.proofs.list_runs.Goals as goal

pub returns-in_err-check_list : goal.returns-in_err-check_list
returns-in_err-check_list c = let p = err_from_is_err_and c.from_residual.result c.from_residual.ensures.1 in
    rw (p.1, p.2) (list_runs_checked 32 c.args.list.now c.in_err-check_list.ensures _ (number_ne0 _))

pub write_runs-requires : goal.write_runs-requires
write_runs-requires c = list_runs_valid 32 c.args.list.now c.in_ok-check_list.ensures (λ i. omega (arith, c.type_inv.list i)) refl

pub returns : goal.returns
returns c = list_runs_listed 32 c.args.list.now c.in_ok-check_list.ensures _ refl c.write_runs.ensures
