use mathlib.Core.Path.{ap, ◌∙◌}
use Rattle.refusals.specs.Reply.{counted}
use Rattle.maftehon.proofs.route_lists.mft_list_scan.Goals as goal

pub returns : goal.returns
returns c = (c.counted.ensures ∙ ap counted c.from.ensures) ∙ ap counted c.scan_list.ensures
