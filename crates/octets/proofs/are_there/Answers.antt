use mathlib.Core.Path.{sym}
use Prim.Native.Nat.{◌+◌, ◌-◌}
use native.Mathlib.Omega.{arith}
use borrow.Author.Tests.{lt-leb}
use Rattle.lists.proofs.Tests.{leb_same}
use Rattle.octets.proofs.are_there.Goals as goal

pub returns-then-count-k : goal.returns-then-count-k
returns-then-count-k c = let a = c.args in
    sym (lt-leb (a.from + a.k) a.count (omega (arith, c.if-count-k.true)))

pub returns : goal.returns
returns c = let a = c.args in
    leb_same a.from (a.count - a.k) (a.from + a.k) a.count (λ h. omega (arith, c.if-count-k.false)) (λ h. omega (arith, c.if-count-k.false))
