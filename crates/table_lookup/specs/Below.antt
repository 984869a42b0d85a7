-- What the walk of the check gives of a subtree, as the definitions name it: nothing where it is wrong. RULES, "Good order".
-- Assumes nothing.
use Rattle.std.specs.Prelude.{Option, Some, None}
use Rattle.table_rules.specs.Check.{seen, wrong_rows}
use Rattle.table_rules.specs.Check.{Seen}
use Rattle.table_lookup.specs.declared.good.Below.{Below}

abbrev pub seen_of : Below → Seen
seen_of b = seen b.rows b.best.value b.best.len

abbrev pub seen_in : Option Below → Seen
seen_in None = wrong_rows
seen_in (Some b) = seen_of b
