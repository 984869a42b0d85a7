use Prim.Native.Nat.{ℕ}
use mathlib.Core.Path.{sym, ap, ◌∙◌}
use native.Mathlib.Omega.{arith}
use Rattle.std.proofs.lemmas.Result.{err_from_is_err_and}
use Rattle.refusals.specs.Refusals.{refused}
use Rattle.refusals.proofs.Numbers.{number_ne0}
use Rattle.file_read.specs.Step.{stepped}
use Rattle.file_rules.proofs.Walk.{check_unheaded}
use Rattle.file_read.proofs.Steps.{reached_none, reached_small, reached_more, reached_refused, reached_all}
use Rattle.file_read.proofs.check_file.Goals as goal

pub returns-in_err-head_fault : goal.returns-in_err-head_fault
returns-in_err-head_fault c = let p = err_from_is_err_and c.from_residual.result c.from_residual.ensures.1 in
    let is = c.in_err-head_fault.ensures in
    rw (p.1, p.2) (ap (λ (m : ℕ). refused m 0) is ∙ sym (check_unheaded 32 c.args.file.now (λ z. number_ne0 _ (is ∙ z))))

pub loop-c-init : goal.loop-c-init
loop-c-init c = reached_none 32 c.args.file.now

pub step_at-requires : goal.step_at-requires
step_at-requires c = let file = c.args.file.now in
    record { within = c.loop-c-test.true; early = reached_small 32 file c.loop-c.c c.loop-c.invariant; few = c.loop-c.invariant.few }

pub loop-c-smaller : goal.loop-c-smaller
loop-c-smaller c = let file = c.args.file.now in
    omega (arith, (reached_more 32 file c.loop-c.c c.loop-c.invariant _ (sym c.step_at.ensures ∙ ap stepped c.in-Ok.is)).1, c.loop-c-test.true)

pub loop-c-preserved : goal.loop-c-preserved
loop-c-preserved c = let file = c.args.file.now in
    (reached_more 32 file c.loop-c.c c.loop-c.invariant _ (sym c.step_at.ensures ∙ ap stepped c.in-Ok.is)).0

pub returns-in-Err : goal.returns-in-Err
returns-in-Err c = let file = c.args.file.now in
    reached_refused 32 file c.loop-c.c c.loop-c.invariant _ (sym c.in_ok-head_fault.ensures) c.loop-c-test.true (sym c.step_at.ensures ∙ ap stepped c.in-Err.is)

pub returns : goal.returns
returns c = let file = c.args.file.now in
    reached_all 32 file c.loop-c.c c.loop-c.invariant (sym c.in_ok-head_fault.ensures) c.loop-c-test.false
