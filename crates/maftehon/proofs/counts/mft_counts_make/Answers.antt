use mathlib.Core.Path.{ap, ◌∙◌}
use Rattle.refusals.specs.Reply.{placed}
use Rattle.maftehon.proofs.Reply.{replied_place_is}
use Rattle.maftehon.proofs.counts.mft_counts_make.Goals as goal

pub returns : goal.returns
returns c = replied_place_is _ _ _ _ c.make.ensures (c.placed.ensures ∙ ap placed c.from.ensures)
