use mathlib.Core.Path.{ap, ◌∙◌}
use Rattle.maftehon.specs.Reply.{built}
use Rattle.maftehon.proofs.Reply.{replied_image_is}
use Rattle.maftehon.proofs.images.mft_image_build.Goals as goal

pub returns : goal.returns
returns c = replied_image_is _ _ _ _ _ c.build.ensures (c.built.ensures ∙ ap built c.from.ensures)
