use Rattle.file_read.proofs.FillLoop.{Filled}
use Rattle.file_read.proofs.fill_list.Given as goal

abbrev pub invariant-loop-i : goal.invariant-loop-i
invariant-loop-i l = Filled 32 l.file l.initial.list l.n l.list l.at l.i
