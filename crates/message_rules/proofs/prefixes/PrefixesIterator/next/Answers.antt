use Rattle.std.proofs.Common.{◌+◌, sym, ap, ◌∙◌, ◌∷◌, length, arith, rules}
use Rattle.octets.specs.Octets.{prefix_size}
use Rattle.octets.proofs.TakeReturns.{whole_taken}
use Rattle.prefix.specs.declared.Prefix.{Prefix}
use Rattle.message_rules.specs.Message.{prefixes_after}
use Rattle.message_rules.proofs.Walk.{prefixes_whole, prefixes_stop}
use Rattle.message_rules.proofs.prefixes.PrefixesIterator.next.Goals as goal

pub overflow_add-self : goal.overflow_add-self
overflow_add-self c = let self = c.args.self.now in
    let whole = whole_taken 32 self.part.now self.at c.in-Ok.prefix (sym c.take_prefix.ensures ∙ c.in-Ok.is) in
    omega (arith, c.prefix_size.ensures.is, ap (λ (p : Prefix). prefix_size p.len) whole.is, whole.uncut)

pub returns-in-Ok-clause-steps : goal.returns-in-Ok-clause-steps
returns-in-Ok-clause-steps c = let self = c.args.self.now in
    prefixes_whole 32 self.part.now self.at c.in-Ok.prefix (sym c.take_prefix.ensures ∙ c.in-Ok.is)
    ∙ ap (λ k. c.in-Ok.prefix ∷ prefixes_after 32 self.part.now (self.at + k)) (sym c.prefix_size.ensures.is)

pub returns-in-Ok-clause-goes : goal.returns-in-Ok-clause-goes
returns-in-Ok-clause-goes c = let fewer = ap length (returns-in-Ok-clause-steps c) in search rules

pub returns-in-Err-clause-steps : goal.returns-in-Err-clause-steps
returns-in-Err-clause-steps c = let self = c.args.self.now in
    let none = prefixes_stop 32 self.part.now self.at _ (sym c.take_prefix.ensures ∙ c.in-Err.is) in
    (none, none)
