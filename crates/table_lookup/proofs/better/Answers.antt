use Rattle.table_lookup.proofs.better.Goals as goal

pub returns-then-matched : goal.returns-then-matched
returns-then-matched c = rw c.if-matched.true

pub returns-else-matched : goal.returns-else-matched
returns-else-matched c = rw c.if-matched.false
