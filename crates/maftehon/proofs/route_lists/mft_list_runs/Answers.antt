use mathlib.Core.Path.{ap, ◌∙◌}
use Rattle.refusals.specs.Reply.{counted}
use Rattle.maftehon.proofs.Reply.{replied_is}
use Rattle.maftehon.proofs.route_lists.mft_list_runs.Goals as goal

pub returns : goal.returns
returns c = replied_is _ _ _ _ c.list_runs.ensures (c.counted.ensures ∙ ap counted c.from.ensures)
