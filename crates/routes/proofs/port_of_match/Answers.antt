use mathlib.Core.Path.{◌∙◌}
use Rattle.bits.specs.Prefix.{matches}
use Rattle.routes.proofs.Faults.{prefix_test}
use Rattle.routes.proofs.port_of_match.Goals as goal

pub returns-then-matches : goal.returns-then-matches
returns-then-matches c = let a = c.args in
    rw (prefix_test (λ v l. matches 32 v l a.address) _ _ _ _ c.prefix.ensures c.matches.ensures ∙ c.if-matches.true)

pub returns-else-matches : goal.returns-else-matches
returns-else-matches c = let a = c.args in
    rw (prefix_test (λ v l. matches 32 v l a.address) _ _ _ _ c.prefix.ensures c.matches.ensures ∙ c.if-matches.false)
