use mathlib.Core.Path.{◌≡◌}
use native.Mathlib.Omega.{arith}
use Rattle.image_rules.specs.Node.{offset_of}
use Rattle.image_nodes.proofs.next_of.Goals as goal

pub returns : goal.returns
returns c = let x = c.args in
    let offset : c.wide.result ≡ offset_of x.nodes.now x.at.0 =
    rw (← c.start_of.ensures) c.wide.ensures.0 in (
      omega (arith, c.plus.ensures, offset, c.wide.ensures.1),
      omega (arith, c.plus.ensures, c.wide.ensures.1),
    )
