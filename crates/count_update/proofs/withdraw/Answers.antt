use mathlib.Core.Path.{refl, ap, ◌∙◌}
use Prim.Native.Nat.{ℕ}
use native.Mathlib.Omega.{arith}
use Rattle.std.proofs.Common.{Ok, Err}
use Rattle.std.proofs.lemmas.Result.{err_from_is_err_and}
use Rattle.refusals.specs.Refusals.{updated}
use Rattle.refusals.proofs.Numbers.{number_ne0}
use Rattle.table_update.specs.Calls.{keeping}
use Rattle.table_update.specs.History.{withdrawing}
use Rattle.message_calls.specs.History.{single}
use Rattle.table_rows.specs.Words.{five_words}
use Rattle.count_rules.specs.Counted.{passed}
use Rattle.count_update.proofs.Counts.{settle_kept, settle_done}
use Rattle.count_update.proofs.Updates.{update_refused, update_settles, update_done}
use Rattle.count_update.proofs.withdraw.Goals as goal

pub returns-in_err-checked_first : goal.returns-in_err-checked_first
returns-in_err-checked_first c = let a = c.args in
    let p = err_from_is_err_and c.from_residual.result c.from_residual.ensures.1 in
    rw (p.1, p.2) (update_refused a.rows.now a.n a.counts.now (single (withdrawing a.p.value a.p.len)) (passed a.n c.at_0-fault.result) _ (c.at_0-fault.ensures a.n ∙ ap (λ (m : ℕ). keeping m a.n) c.prefix_fault.ensures) c.in_err-checked_first.ensures (number_ne0 _))

pub returns-in_err-done : goal.returns-in_err-done
returns-in_err-done c = let a = c.args in
    let p = err_from_is_err_and c.from_residual-in_err-done.result c.from_residual-in_err-done.ensures.1 in
    rw (p.1, p.2)
    (update_done a.rows.now a.n a.counts.now (single (withdrawing a.p.value a.p.len)) (passed a.n c.at_0-fault.result) _ (c.at_0-fault.ensures a.n ∙ ap (λ (m : ℕ). keeping m a.n) c.prefix_fault.ensures) c.in_ok-checked_first.ensures refl _ c.withdraw.new.rows c.in_err-done.ensures
    (settle_kept five_words 32 (updated a.n (Err c.in_err-done.field-0.0)) c.withdraw.new.rows a.counts.now (number_ne0 _)))

pub recount-requires : goal.recount-requires
recount-requires c = let a = c.args in
    let settles =
    update_settles a.rows.now a.n a.counts.now (single (withdrawing a.p.value a.p.len)) (passed a.n c.at_0-fault.result) _ (c.at_0-fault.ensures a.n ∙ ap (λ (m : ℕ). keeping m a.n) c.prefix_fault.ensures) c.in_ok-checked_first.ensures refl _ c.withdraw.new.rows c.in_ok-done.ensures (omega (arith, c.ranges)) in
    record { good = settles.good refl; room = settles.room }

pub returns : goal.returns
returns c = let a = c.args in
    update_done a.rows.now a.n a.counts.now (single (withdrawing a.p.value a.p.len)) (passed a.n c.at_0-fault.result) _ (c.at_0-fault.ensures a.n ∙ ap (λ (m : ℕ). keeping m a.n) c.prefix_fault.ensures) c.in_ok-checked_first.ensures refl _ c.withdraw.new.rows c.in_ok-done.ensures
    (settle_done five_words 32 (updated a.n (Ok c.in_ok-done.done)) c.withdraw.new.rows a.counts.now refl c.recount.ensures)
