use mathlib.Core.Path.{ap, ◌∙◌}
use Rattle.refusals.specs.Reply.{looked}
use Rattle.maftehon.proofs.segments.mft_segments_lookup.Goals as goal

pub returns : goal.returns
returns c = (c.looked.ensures ∙ ap looked c.from.ensures) ∙ ap looked c.lookup.ensures
