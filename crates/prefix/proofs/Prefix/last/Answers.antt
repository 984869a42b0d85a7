use native.Mathlib.Omega.{arith}
use Rattle.bits.proofs.Prefix.{end_le}
use borrow.Author.Rules.{rules}
use Rattle.prefix.proofs.Prefix.last.Goals as goal

pub overflow_cast-result-2 : goal.overflow_cast-result-2
overflow_cast-result-2 c = let p = c.args.self in
    omega (arith, end_le 32 p.value p.len (search rules), c.after_first.ensures.0, c.first.ensures)
