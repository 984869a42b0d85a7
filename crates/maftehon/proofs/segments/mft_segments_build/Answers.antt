use mathlib.Core.Path.{ap, ◌∙◌}
use Rattle.maftehon.specs.Reply.{blocked}
use Rattle.maftehon.proofs.Reply.{replied_segments_is}
use Rattle.maftehon.proofs.segments.mft_segments_build.Goals as goal

pub returns : goal.returns
returns c = replied_segments_is _ _ _ _ c.build.ensures
    (c.blocked.ensures ∙ ap blocked c.from.ensures)
