use mathlib.Core.Path.{sym}
use Rattle.bits.specs.Prefix.{matches}
use Rattle.routes.proofs.Faults.{prefix_test}
use Rattle.table_lookup.proofs.row_matches.Goals as goal

pub returns : goal.returns
returns c = let a = c.args in
    sym (prefix_test (λ v l. matches 32 v l a.address) _ _ _ _ c.prefix_of.ensures c.matches.ensures)
