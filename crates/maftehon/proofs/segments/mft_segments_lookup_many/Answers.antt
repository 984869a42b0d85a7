use mathlib.Core.Path.{ap, ◌∙◌}
use Rattle.refusals.specs.Reply.{counted}
use Rattle.maftehon.proofs.Reply.{replied_is}
use Rattle.maftehon.proofs.segments.mft_segments_lookup_many.Goals as goal

pub returns : goal.returns
returns c = replied_is _ _ _ _ c.lookup_many.ensures (c.counted.ensures ∙ ap counted c.from.ensures)
