-- What functions rely on between themselves: for the proofs. Assumes nothing.
use Rattle.std.specs.Prelude.{List, ℕ, ◌≤◌, ◌<◌}
use Rattle.image_rules.specs.Node.{node_count}

-- a is the number of a node that is lent whole
pub record Lent (nodes : List ℕ) (a : ℕ) : Type 0 where
  pub positive : 0 < a
  pub within : a ≤ node_count nodes
