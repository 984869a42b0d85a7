use Rattle.table_change.proofs.place.outranks_row.Goals as goal

pub returns : goal.returns
returns c = rw (c.is_ahead.ensures, c.prefix_of.ensures, c.prefix.ensures)
