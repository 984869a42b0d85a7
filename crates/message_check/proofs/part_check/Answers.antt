use mathlib.Core.Path.{sym, ap, ◌∙◌}
use Prim.Native.Nat.{ℕ, ◌+◌}
use native.Mathlib.Omega.{arith}
use Rattle.std.proofs.Common.{Err}
use Rattle.refusals.specs.Refusals.{refused, checked}
use Rattle.message_check.proofs.Walk.{passed_none, passed_more, passed_stop, passed_all}
use Rattle.message_check.proofs.part_check.Goals as goal

pub loop-at-init : goal.loop-at-init
loop-at-init c = passed_none 32 c.args.part.now c.args.from

pub overflow_add-at : goal.overflow_add-at
overflow_add-at c = omega (arith, c.prefix_size-at.ensures.small, c.loop-at.invariant.within, c.requires)

pub loop-at-smaller : goal.loop-at-smaller
loop-at-smaller c = omega (arith, c.prefix_size-at.ensures.is, c.loop-at-test.true)

pub loop-at-preserved : goal.loop-at-preserved
loop-at-preserved c = let a = c.args in
    passed_more 32 a.part.now a.from c.loop-at.at c.loop-at.invariant _ _ (sym c.take_prefix.ensures ∙ c.in-Ok.is) c.prefix_size-at.ensures.is

pub returns-in-Err : goal.returns-in-Err
returns-in-Err c = let a = c.args in
    ap (λ r. checked (Err r)) c.at.ensures
    ∙ ap (λ (m : ℕ). refused m (a.from + c.loop-at.at)) c.fault_of.ensures
    ∙ passed_stop 32 a.part.now a.from c.loop-at.at c.loop-at.invariant c.loop-at-test.true _ (sym c.take_prefix.ensures ∙ c.in-Err.is)

pub returns : goal.returns
returns c = let a = c.args in
    passed_all 32 a.part.now a.from c.loop-at.at c.loop-at.invariant c.loop-at-test.false
