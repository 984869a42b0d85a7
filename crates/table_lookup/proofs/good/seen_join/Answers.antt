use Prim.Native.Nat.{◌+◌}
use mathlib.Core.Path.{ap, ◌∙◌}
use Rattle.table_rules.specs.Check.{seen_over}
use Rattle.table_lookup.proofs.good.seen_join.Goals as goal

pub returns : goal.returns
returns c = let a = c.args in
    c.seen_over.ensures ∙ ap (seen_over a.x a.depth (a.left.rows + a.right.rows + 1)) c.first_seen.ensures
