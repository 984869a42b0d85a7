use mathlib.Core.Path.{◌∙◌}
use native.Mathlib.Omega.{arith}
use lib.ListN.{length-set}
use Rattle.octets.proofs.Store.{number_fits}
use Rattle.file_write.proofs.Store.{head_stored}
use Rattle.file_write.proofs.put_head.Goals as goal

pub returns : goal.returns
returns c = head_stored c.args.file.now _ c.args.size c.requires (c.put_number.ensures ∙ number_fits _ _ 4 _ (omega arith) (simp length-set (omega (arith, c.requires))))
