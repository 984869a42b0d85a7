use mathlib.Core.Path.{refl, sym, ap, ◌∙◌}
use Rattle.std.proofs.Common.{Err}
use Rattle.refusals.proofs.Numbers.{number_ne0}
use Rattle.message_check.specs.Checked.{checked_as}
use Rattle.count_rules.specs.Counted.{passed}
use Rattle.count_update.proofs.Counts.{fault_message, fault_none, fault_port}
use Rattle.count_update.proofs.message_fault.Goals as goal

pub returns-in-Err : goal.returns-in-Err
returns-in-Err c = λ n.
    fault_message c.args.message.now c.args.port n _ ((λ j. checked_as (sym c.in-Err.is j)) ∙ c.check_message.ensures) (number_ne0 _)

pub returns-then-is_port : goal.returns-then-is_port
returns-then-is_port c = λ n.
    fault_none c.args.message.now c.args.port n _ ((λ j. checked_as (sym c.in_default.is j)) ∙ c.check_message.ensures) refl
    (sym c.is_port.ensures ∙ c.if-is_port.true)

pub returns-else-is_port : goal.returns-else-is_port
returns-else-is_port c = λ n.
    ap (λ r. passed n (Err r)) c.at.ensures
    ∙ fault_port c.args.message.now c.args.port n _ ((λ j. checked_as (sym c.in_default.is j)) ∙ c.check_message.ensures) refl
    (sym c.is_port.ensures ∙ c.if-is_port.false)
