use Rattle.table_change.proofs.place.is_same.Goals as goal

pub returns : goal.returns
returns c = rw (c.is_same.ensures, c.prefix_of.ensures, c.prefix.ensures)
