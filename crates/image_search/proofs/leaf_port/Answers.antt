use mathlib.Core.Path.{ap, ◌∙◌}
use borrow.Author.Tests.{lt-ltb, le-ltb}
use Rattle.image_stretch.specs.Stretches.{carried}
use Rattle.image_search.proofs.leaf_port.Goals as goal

pub returns-then-y : goal.returns-then-y
returns-then-y c = rw (lt-ltb _ _ c.if-y.true) (c.port_of.ensures ∙ ap carried c.route_at.ensures)

pub returns : goal.returns
returns c = simp (le-ltb _ _ c.if-y.false)
