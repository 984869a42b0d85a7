use mathlib.Core.Path.{sym, ap, ◌∙◌}
use Rattle.std.proofs.Common.{Err}
use Rattle.refusals.specs.Refusals.{checked}
use Rattle.message_check.proofs.Returns.{head_short, head_unmarked, head_wrong_length, head_inner, head_other}
use Rattle.message_check.proofs.head_check.Goals as goal

pub returns-then-message-lt-LEAST_SIZE : goal.returns-then-message-lt-LEAST_SIZE
returns-then-message-lt-LEAST_SIZE c = ap (λ r. checked (Err r)) c.at.ensures ∙ head_short _ c.if-message-lt-LEAST_SIZE.true

pub returns-then-is_unmarked : goal.returns-then-is_unmarked
returns-then-is_unmarked c = ap (λ r. checked (Err r)) c.at-then-is_unmarked.ensures ∙ head_unmarked _ c.if-message-lt-LEAST_SIZE.false (sym c.is_unmarked.ensures ∙ c.if-is_unmarked.true)

pub returns-then-is_wrong_length : goal.returns-then-is_wrong_length
returns-then-is_wrong_length c = ap (λ r. checked (Err r)) c.at-then-is_wrong_length.ensures
    ∙ head_wrong_length _ c.if-message-lt-LEAST_SIZE.false (sym c.is_unmarked.ensures ∙ c.if-is_unmarked.false)
    (sym c.is_wrong_length.ensures ∙ c.if-is_wrong_length.true)

pub returns-then-message-eq-UPDATE : goal.returns-then-message-eq-UPDATE
returns-then-message-eq-UPDATE c = c.inner_check.ensures
    ∙ head_inner _ c.if-message-lt-LEAST_SIZE.false (sym c.is_unmarked.ensures ∙ c.if-is_unmarked.false)
    (sym c.is_wrong_length.ensures ∙ c.if-is_wrong_length.false) c.if-message-eq-UPDATE.true

pub returns : goal.returns
returns c = ap (λ r. checked (Err r)) c.at-2.ensures
    ∙ head_other _ c.if-message-lt-LEAST_SIZE.false (sym c.is_unmarked.ensures ∙ c.if-is_unmarked.false)
    (sym c.is_wrong_length.ensures ∙ c.if-is_wrong_length.false) c.if-message-eq-UPDATE.false
