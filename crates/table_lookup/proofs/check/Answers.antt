use mathlib.Core.Path.{sym, ap, ◌∙◌}
use Rattle.std.proofs.Common.{Err}
use Rattle.refusals.specs.Refusals.{checked}
use Rattle.table_lookup.proofs.check.Goals as goal

pub returns-then-is_good : goal.returns-then-is_good
returns-then-is_good c = rw (sym c.is_good.ensures ∙ c.if-is_good.true)

pub returns-else-is_good : goal.returns-else-is_good
returns-else-is_good c = rw (sym c.is_good.ensures ∙ c.if-is_good.false) (ap (λ r. checked (Err r)) c.at.ensures)
