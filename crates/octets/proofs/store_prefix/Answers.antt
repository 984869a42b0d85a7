use native.Mathlib.Omega.{arith}
use Rattle.octets.proofs.Store.{prefix_stored}
use Rattle.octets.proofs.store_prefix.Goals as goal

pub returns : goal.returns
returns c = prefix_stored 32 c.args.bytes.now _ _ c.args.at _ c.args.p.value c.args.p.len (omega (arith, c.requires.1)) c.prefix_bytes-k.ensures.is c.requires.0 c.store_number.ensures c.store_number-2.ensures
