use mathlib.Core.Path.{ap, ◌∙◌}
use Rattle.std.proofs.Common.{Err}
use Rattle.promise.specs.Over.{outcome}
use Rattle.refusals.specs.Refusals.{updated}
use Rattle.refusals.specs.declared.Refusal.{Refusal}
use Rattle.table_update.proofs.Answers.{held_some, withdraw_held, withdraw_missing}
use Rattle.table_rows.specs.Words.{five_words}
use Rattle.table_update.proofs.withdraw_in.Goals as goal

pub overflow_sub-result : goal.overflow_sub-result
overflow_sub-result c = let d = c.args in
    held_some five_words 32 d.rows.now d.n d.q _ c.is_held.ensures c.if-is_held.true

pub returns-then-is_held : goal.returns-then-is_held
returns-then-is_held c = let d = c.args in
    withdraw_held five_words 32 d.rows.now d.n d.q _ c.is_held.ensures _ c.if-is_held.true c.take_route.ensures

pub returns : goal.returns
returns c = let d = c.args in
    ap (λ (r : Refusal). outcome (updated d.n (Err r)) d.rows.now) c.at.ensures
    ∙ withdraw_missing five_words 32 d.rows.now d.n d.q _ c.is_held.ensures c.if-is_held.false
