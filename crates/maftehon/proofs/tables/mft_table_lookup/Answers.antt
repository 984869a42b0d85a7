use mathlib.Core.Path.{ap, ◌∙◌}
use Rattle.refusals.specs.Reply.{looked}
use Rattle.maftehon.proofs.tables.mft_table_lookup.Goals as goal

pub returns : goal.returns
returns c = (c.looked.ensures ∙ ap looked c.from.ensures) ∙ ap looked c.lookup.ensures
