use mathlib.Core.Path.{sym}
use Rattle.bits.proofs.Prefix.{matches_within}
use Rattle.prefix.proofs.Prefix.matches.Goals as goal

pub returns : goal.returns
returns c = let p = c.args.self in
    rw (c.first.ensures, c.last.ensures) (sym (matches_within 32 p.value p.len c.args.address))
