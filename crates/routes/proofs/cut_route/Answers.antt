use Prim.Native.Nat.{◌+◌, ◌*◌}
use native.Mathlib.Omega.{arith}
use lib.ListN.{get_or-eq_default}
use Rattle.routes.proofs.cut_route.Goals as goal

pub returns-then-list-i : goal.returns-then-list-i
returns-then-list-i c = let a = c.args in
    rw (
      get_or-eq_default a.list.now 0 {n = a.i * 3} (omega arith),
      get_or-eq_default a.list.now 0 {n = a.i * 3 + 1} (omega arith),
      get_or-eq_default a.list.now 0 {n = a.i * 3 + 2} (omega arith),
    )

pub returns : goal.returns
returns c = rw (c.word_at-3.ensures, c.word_at-2.ensures, c.word_at.ensures)
