use mathlib.Core.Path.{ap}
use Rattle.prefix.specs.declared.Prefix.{Prefix}
use Rattle.table_rules.specs.Check.{seen}
use Rattle.table_lookup.proofs.good.last_seen.Goals as goal

pub returns-then-x : goal.returns-then-x
returns-then-x c = rw c.if-x.true

pub returns : goal.returns
returns c = rw c.if-x.false (ap (λ (p : Prefix). seen 1 p.value p.len) c.prefix_of.ensures)
