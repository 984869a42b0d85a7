use mathlib.Core.Path.{refl, sym, ap, ◌∙◌}
use Rattle.routes.specs.Check.{prefix_fault}
use Rattle.std.proofs.lemmas.Result.{err_from_is_err_and}
use Rattle.refusals.proofs.Numbers.{number_ne0}
use Rattle.routes.proofs.Faults.{prefix_fault_rest, chain_fault, chain_rest}
use Rattle.routes.proofs.route_fault.Goals as goal

pub returns-in_err-prefix_fault : goal.returns-in_err-prefix_fault
returns-in_err-prefix_fault c = let r = c.args.route in
    let p = err_from_is_err_and c.from_residual.result c.from_residual.ensures.1 in
    rw (p.1, p.2) (sym (chain_fault _ (prefix_fault_rest 32 r.value r.len) _ (c.in_err-prefix_fault.ensures ∙ ap (λ p. prefix_fault 32 p.value p.len 0) c.prefix.ensures) _ (number_ne0 _)))

pub returns-then-is_port : goal.returns-then-is_port
returns-then-is_port c = let r = c.args.route in
    let p = c.in_ok-prefix_fault.ensures ∙ ap (λ p. prefix_fault 32 p.value p.len 0) c.prefix.ensures in
    sym (chain_rest _ (prefix_fault_rest 32 r.value r.len) _ p _ refl ∙ rw (sym c.is_port.ensures ∙ c.if-is_port.true))

pub returns-else-is_port : goal.returns-else-is_port
returns-else-is_port c = let r = c.args.route in
    let p = c.in_ok-prefix_fault.ensures ∙ ap (λ p. prefix_fault 32 p.value p.len 0) c.prefix.ensures in
    sym (chain_rest _ (prefix_fault_rest 32 r.value r.len) _ p _ refl ∙ rw (sym c.is_port.ensures ∙ c.if-is_port.false))
