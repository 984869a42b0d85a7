use mathlib.Core.Path.{ap, ◌∙◌}
use native.Mathlib.Omega.{arith}
use lib.ListN.{length, length-set}
use borrow.Author.Rules.{rules}
use Rattle.octets.proofs.Store.{number_fits}
use Rattle.message_write.proofs.Heads.{head_stored, length_over_head}
use Rattle.message_write.proofs.put_head.Goals as goal

pub shape_of-message : goal.shape_of-message
shape_of-message c = ap length (head_stored c.args.message.now c.args.size c.requires.0 _ _ _ c.put_marker.ensures (c.put_number.ensures ∙ number_fits _ _ 2 _ (omega arith) (search rules)) (c.put_number-2.ensures ∙ number_fits _ _ 2 _ (omega arith) (simp length-set (omega arith))))
    ∙ length_over_head c.args.message.now c.args.size c.requires.0

pub returns : goal.returns
returns c = head_stored c.args.message.now c.args.size c.requires.0 _ _ _ c.put_marker.ensures (c.put_number.ensures ∙ number_fits _ _ 2 _ (omega arith) (search rules)) (c.put_number-2.ensures ∙ number_fits _ _ 2 _ (omega arith) (simp length-set (omega arith)))
