use mathlib.Core.Path.{refl, ap, ◌∙◌}
use Rattle.std.proofs.Common.{Err}
use Rattle.refusals.specs.Refusals.{checked}
use Rattle.message_check.proofs.Returns.{inner_withdrawn, inner_attributes, inner_fine}
use Rattle.message_check.proofs.inner_check.Goals as goal

pub returns-then-message-end : goal.returns-then-message-end
returns-then-message-end c = ap (λ r. checked (Err r)) c.at.ensures ∙ inner_withdrawn _ _ _ c.field_at-end.ensures.is refl c.if-message-end.true

pub returns-then-message-at : goal.returns-then-message-at
returns-then-message-at c = ap (λ r. checked (Err r)) c.at-then-message-at.ensures
    ∙ inner_attributes _ _ _ c.field_at-end.ensures.is refl c.if-message-end.false _ _ c.field_at.ensures.is refl c.if-message-at.true

pub returns : goal.returns
returns c = inner_fine _ _ _ c.field_at-end.ensures.is refl c.if-message-end.false _ _ c.field_at.ensures.is refl c.if-message-at.false
