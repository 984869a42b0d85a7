use mathlib.Core.Path.{sym, ap, ◌∙◌}
use Prim.Native.Nat.{ℕ}
use native.Mathlib.Nat.{sub-zero}
use native.Mathlib.Omega.{arith}
use Rattle.std.proofs.Common.{Err}
use Rattle.refusals.specs.Refusals.{refused, checked}
use Rattle.refusals.proofs.Numbers.{number_ne0}
use Rattle.routes.proofs.First.{first_fault_more, first_fault_here, first_fault_all}
use Rattle.routes.proofs.Check.{list_check_sized, check_unsized}
use Rattle.routes.proofs.check_list.Goals as goal

pub returns-then-list-ne0 : goal.returns-then-list-ne0
returns-then-list-ne0 c = ap (λ r. checked (Err r)) c.at.ensures ∙ sym ((check_unsized 32 c.args.list.now).0 c.if-list-ne0.true)

pub returns-then-n-gt-MOST_ROUTES : goal.returns-then-n-gt-MOST_ROUTES
returns-then-n-gt-MOST_ROUTES c =
    ap (λ r. checked (Err r)) c.at-then-n-gt-MOST_ROUTES.ensures
    ∙ sym ((check_unsized 32 c.args.list.now).1 c.if-list-ne0.false c.if-n-gt-MOST_ROUTES.true)

pub loop-i-init : goal.loop-i-init
loop-i-init c = rw sub-zero (list_check_sized 32 c.args.list.now (record { whole = c.if-list-ne0.false; few = c.if-n-gt-MOST_ROUTES.false }))

pub overflow_cast-i : goal.overflow_cast-i
overflow_cast-i c = omega arith

pub returns-in-Err : goal.returns-in-Err
returns-in-Err c = let e = c.in-Err.ensures in
    ap (λ r. checked (Err r)) c.at-in-Err.ensures
    ∙ ap (λ (m : ℕ). refused m c.loop-i.i) e
    ∙ sym (c.loop-i.invariant ∙ first_fault_here _ _ _ c.loop-i-test.true (λ z. number_ne0 _ (e ∙ z)))

pub loop-i-preserved : goal.loop-i-preserved
loop-i-preserved c = c.loop-i.invariant ∙ first_fault_more _ _ _ c.loop-i-test.true (sym c.in_default.ensures)

pub returns : goal.returns
returns c = sym (c.loop-i.invariant ∙ first_fault_all _ _ _ c.loop-i-test.false)
