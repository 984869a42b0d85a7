use mathlib.Core.Path.{ap, ◌∙◌}
use Rattle.maftehon.specs.Reply.{located}
use Rattle.maftehon.proofs.segments.mft_segments_entries.Goals as goal

pub located-requires : goal.located-requires
located-requires c = c.part_of.ensures.small

pub returns : goal.returns
returns c = c.located.ensures ∙ ap located c.part_of.ensures.is
