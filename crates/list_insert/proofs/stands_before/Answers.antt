use mathlib.Core.Path.{◌∙◌, ap₂}
use Rattle.bits.specs.Prefix.{precedes}
use Rattle.prefix.specs.declared.Prefix.{Prefix}
use Rattle.list_insert.proofs.stands_before.Goals as goal

pub returns : goal.returns
returns c = c.precedes.ensures ∙ ap₂ (λ (p q : Prefix). precedes p.value p.len q.value q.len) c.prefix.ensures c.prefix-2.ensures
