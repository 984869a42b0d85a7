use mathlib.Core.Path.{ap, ◌∙◌}
use Rattle.refusals.specs.Reply.{looked}
use Rattle.maftehon.proofs.images.mft_image_lookup_4.Goals as goal

pub returns : goal.returns
returns c = (c.looked.ensures ∙ ap looked c.from.ensures) ∙ ap looked c.lookup_4.ensures
