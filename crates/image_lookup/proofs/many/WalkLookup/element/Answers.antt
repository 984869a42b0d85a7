use Rattle.std.proofs.Common.{ap, ◌%◌, ◌^◌, ◌∙◌, arith}
use Rattle.refusals.specs.declared.found.Found.{Found}
use Rattle.image_rules.specs.Lookup.{lookup_words}
use Rattle.image_rules.proofs.Walk.{ports_le}
use Rattle.many_rules.specs.Many.{element}
use Rattle.many_rules.proofs.Filling.{element_whole}
use Rattle.image_lookup.proofs.many.WalkLookup.element.Goals as goal

pub returns : goal.returns
returns g c =
    let walk = c.args.self.now in
    c.element_of.ensures ∙ ap (λ (x : Found). element x % 2 ^ 16) c.lookup.ensures
    ∙ element_whole (lookup_words 32 g.row.STRIDE walk.nodes.now walk.ports.now c.args.address)
    (omega (arith, ports_le 32 g.row.STRIDE walk.nodes.now walk.ports.now c.args.address))
