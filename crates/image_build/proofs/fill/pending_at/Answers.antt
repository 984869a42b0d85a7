use mathlib.Core.Path.{ap, ◌∙◌}
use Prim.Native.Nat.{◌/◌, ◌%◌}
use Rattle.image_nodes.specs.declared.NodeWords.{NodeWords}
use Rattle.image_stretch.specs.Stretches.{stretch, half_word}
use Rattle.image_nodes.proofs.Nodes.{node_at_lent}
use Rattle.image_build.proofs.fill.pending_at.Goals as goal

pub returns : goal.returns
returns c = ap (λ (x : NodeWords). stretch (x.bitmap / half_word) (x.bitmap % half_word) (x.offset / half_word) (x.offset % half_word))
    (c.node_at-x.ensures ∙ node_at_lent c.args.nodes.now c.args.at.0 c.requires)
