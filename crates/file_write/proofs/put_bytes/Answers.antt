use mathlib.Core.Path.{ap, ◌∙◌}
use Rattle.octets.specs.Octets.{prefix_put}
use native.Mathlib.Omega.{arith}
use Rattle.octets.proofs.Store.{number_fits, prefix_fits}
use Rattle.file_write.proofs.Store.{route_stored}
use borrow.Author.Rules.{rules}
use Rattle.file_write.proofs.put_bytes.Goals as goal

pub returns : goal.returns
returns c = route_stored 32 c.args.file.now _ _ c.args.at _ c.args.r c.prefix_size.ensures.is c.requires.0
    (c.put_prefix.ensures ∙ ap (λ p. prefix_put 32 c.args.file.now c.args.at p.value p.len) c.prefix.ensures ∙ prefix_fits 32 c.args.file.now c.args.at _ _ c.requires.1 (omega (arith, c.requires.0)))
    (c.put_number.ensures ∙ number_fits _ _ 2 _ (omega arith) (search rules))
