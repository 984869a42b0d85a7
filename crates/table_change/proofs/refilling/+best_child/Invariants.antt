use Rattle.table_change.proofs.refilling.+best_child.Given as goal

abbrev pub decreases-best_child : goal.decreases-best_child
decreases-best_child l = l.left
