use native.Mathlib.Omega.{arith}
use Rattle.octets.proofs.Numbers.{cut}
use Rattle.octets.proofs.clear_past.Goals as goal

pub overflow_cast-result : goal.overflow_cast-result
overflow_cast-result c = let x = cut 32 c.args.high c.args.len (omega arith) c.requires.0 in omega (arith, x.0, x.1)

pub returns : goal.returns
returns c = (cut 32 c.args.high c.args.len (omega arith) c.requires.0).0
