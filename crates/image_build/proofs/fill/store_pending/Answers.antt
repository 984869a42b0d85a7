use mathlib.Core.Path.{ap₂, ◌∙◌}
use Prim.Native.Nat.{ℕ}
use native.Mathlib.Omega.{arith}
use Rattle.image_rules.specs.Node.{node_words, store_nodes}
use Rattle.image_nodes.proofs.Nodes.{store_node_lent}
use Rattle.image_build.proofs.fill.store_pending.Goals as goal

pub halves-requires : goal.halves-requires
halves-requires c = let p = c.requires in (omega (arith, p.0.ordered, p.0.rows_fit), p.0.rows_fit)

pub halves-requires-2 : goal.halves-requires-2
halves-requires-2 c = let p = c.requires in (p.1, p.0.port_fits)

pub returns : goal.returns
returns c = let routes = c.halves in
    let rest = c.halves-2 in
    c.store_node.ensures
    ∙ store_node_lent c.args.nodes.now c.args.at.0 (node_words routes.result rest.result) c.requires.2
    ∙ ap₂ (λ (x y : ℕ). store_nodes c.args.nodes.now c.args.at.0 (node_words x y)) routes.ensures rest.ensures
