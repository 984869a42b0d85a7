use Rattle.table_change.proofs.refilling.is_last.Goals as goal

pub returns : goal.returns
returns c = rw c.is_same.ensures
