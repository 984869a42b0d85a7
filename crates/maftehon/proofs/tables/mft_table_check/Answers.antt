use mathlib.Core.Path.{ap, ◌∙◌}
use Rattle.refusals.specs.Reply.{placed}
use Rattle.maftehon.proofs.tables.mft_table_check.Goals as goal

pub returns : goal.returns
returns c = (c.placed.ensures ∙ ap placed c.from.ensures) ∙ ap placed c.check.ensures
