use mathlib.Core.Path.{ap, ◌∙◌}
use Rattle.refusals.specs.Reply.{counted}
use Rattle.maftehon.proofs.Reply.{replied_is}
use Rattle.maftehon.proofs.messages.mft_message_write.Goals as goal

pub returns : goal.returns
returns c = replied_is _ _ _ _ c.write_message.ensures (c.counted.ensures ∙ ap counted c.from.ensures)
