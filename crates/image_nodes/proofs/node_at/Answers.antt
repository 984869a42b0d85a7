use Rattle.std.proofs.Common.{ap₂}
use Rattle.image_nodes.specs.Words.{two_words, node_at}
use Rattle.image_nodes.proofs.Nodes.{node_at_lent}
use Rattle.image_nodes.proofs.node_at.Goals as goal

pub returns-then-is_node : goal.returns-then-is_node
returns-then-is_node c = let a = c.args in
    rw (node_at_lent a.nodes.now a.at.0 c.if-is_node.ensures, c.start_of-start.ensures)

pub returns-else-is_node : goal.returns-else-is_node
unfolding node_at
returns-else-is_node c = rw c.if-is_node.ensures (ap₂ two_words c.default.ensures.0 c.default.ensures.1)
