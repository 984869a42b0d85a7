use mathlib.Core.Path.{◌∙◌}
use Prim.Native.Nat.{◌≤◌}
use Rattle.octets.proofs.TakeReturns.{prefix_is}
use Rattle.file_read.proofs.StepReturns.{read_is}
use borrow.Author.Rules.{rules}
use Rattle.file_read.proofs.step.read_at.Goals as goal

pub returns : goal.returns
returns c = let file = c.args.file.now in
    let len_is = c.length_at-len.ensures.is in
    let short : c.length_at-len.result ≤ 32 = search rules in
    read_is 32 file c.args.at _ len_is _ (c.prefix_from-p.ensures ∙ prefix_is 32 file c.args.at _ len_is short) _ c.prefix_bytes.ensures.is _ c.port_from-port.ensures
