use Rattle.image_rules.specs.Node.{store_node}
use Rattle.image_nodes.proofs.Nodes.{stored_two}
use Rattle.image_nodes.proofs.store_node.Goals as goal

pub returns-then-is_node : goal.returns-then-is_node
returns-then-is_node c = let a = c.args in
    stored_two a.nodes.now a.at.0 c.if-is_node.ensures c.start_of-start.result a.x.bitmap a.x.offset c.start_of-start.ensures

pub returns-else-is_node : goal.returns-else-is_node
unfolding store_node
returns-else-is_node c = rw c.if-is_node.ensures
