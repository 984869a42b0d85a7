use Rattle.image_lookup.proofs.Turns.{Going}
use Rattle.image_lookup.proofs.descend.Given as goal

abbrev pub invariant-loop-left : goal.invariant-loop-left
invariant-loop-left g l = Going 32 g.row.STRIDE l.nodes l.ports l.address l.left l.at.0 l.reads
