use borrow.Author.Tests.{le-ltb, lt-ltb}
use Rattle.runs_write.specs.Sweep.{start_of}
use Rattle.runs_write.proofs.sweep.start_of.Goals as goal

pub returns-then-i-n : goal.returns-then-i-n
unfolding start_of
returns-then-i-n c = simp (lt-ltb _ _ c.if-i-n.true, c.first.ensures, c.prefix.ensures, c.route_at.ensures)

pub returns : goal.returns
unfolding start_of
returns c = simp (le-ltb _ _ c.if-i-n.false)
