use mathlib.Core.Path.{sym}
use native.Mathlib.Omega.{arith}
use lib.ListN.{get_or-eq_default}
use Rattle.routes.proofs.word_at.Goals as goal

pub returns-else-at-list : goal.returns-else-at-list
returns-else-at-list c = let a = c.args in sym (get_or-eq_default a.list.now 0 {n = a.at} (omega arith))
