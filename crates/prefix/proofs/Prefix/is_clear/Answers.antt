use Rattle.bits.proofs.Prefix.{first_clear}
use Rattle.prefix.proofs.Prefix.is_clear.Goals as goal

pub returns : goal.returns
returns c = let p = c.args.self in
    rw c.first.ensures (first_clear 32 p.value p.len)
