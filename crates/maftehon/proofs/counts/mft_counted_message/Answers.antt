use mathlib.Core.Path.{ap, ◌∙◌}
use Rattle.refusals.specs.Reply.{counted}
use Rattle.maftehon.proofs.Reply.{replied_book_is}
use Rattle.maftehon.proofs.counts.mft_counted_message.Goals as goal

pub returns : goal.returns
returns c = replied_book_is _ _ _ _ _ c.apply.ensures (c.counted.ensures ∙ ap counted c.updated.ensures)
