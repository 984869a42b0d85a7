use mathlib.Core.Path.{sym}
use native.Mathlib.Omega.{arith}
use lib.ListN.{get_or-eq_default}
use Rattle.octets.proofs.length_at.Goals as goal

pub returns-else-at-bytes : goal.returns-else-at-bytes
returns-else-at-bytes c = let a = c.args in
    record { is = sym (get_or-eq_default a.bytes.now 0 c.if-at-bytes.false); small = omega arith }
