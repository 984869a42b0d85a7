use Rattle.table_change.proofs.place.with_child.Goals as goal

pub returns-then-right : goal.returns-then-right
returns-then-right c = rw c.if-right.true

pub returns-else-right : goal.returns-else-right
returns-else-right c = rw c.if-right.false
