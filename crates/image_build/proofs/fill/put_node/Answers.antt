use mathlib.Core.Path.{refl, ap, ◌∙◌}
use Prim.Native.Nat.{ℕ}
use native.Mathlib.Omega.{arith}
use Rattle.image_rules.specs.Node.{node_words, store_nodes}
use Rattle.image_nodes.proofs.Nodes.{store_node_lent}
use Rattle.image_build.proofs.fill.put_node.Goals as goal

pub overflow_cast-words : goal.overflow_cast-words
overflow_cast-words c = let p = c.requires in
    omega (arith, c.to.ensures, p.0.positive, p.1)

pub returns : goal.returns
returns c = let a = c.args in
    let o = c.to in (
      refl,
      c.store_node.ensures ∙ store_node_lent a.nodes.now a.at.0 (node_words a.f.bitmap o.result.0) c.requires.0
          ∙ ap (λ (n : ℕ). store_nodes a.nodes.now a.at.0 (node_words a.f.bitmap n)) o.ensures,
    )
