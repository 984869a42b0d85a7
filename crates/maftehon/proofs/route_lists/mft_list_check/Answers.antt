use mathlib.Core.Path.{ap, ◌∙◌}
use Rattle.refusals.specs.Reply.{placed}
use Rattle.maftehon.proofs.route_lists.mft_list_check.Goals as goal

pub returns : goal.returns
returns c = (c.placed.ensures ∙ ap placed c.from.ensures) ∙ ap placed c.check_list.ensures
