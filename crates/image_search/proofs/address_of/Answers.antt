use mathlib.Core.Path.{ap, ◌∙◌}
use borrow.Author.Tests.{lt-ltb, le-ltb}
use Rattle.bits.specs.Prefix.{first}
use Rattle.prefix.specs.declared.Prefix.{Prefix}
use Rattle.routes.specs.declared.Route.{Route}
use Rattle.image_search.proofs.address_of.Goals as goal

pub returns-then-x : goal.returns-then-x
returns-then-x c = simp (le-ltb _ _ c.if-x.true)

pub returns : goal.returns
returns c = let a = c.args in
    rw (lt-ltb _ _ c.if-x.false)
    (c.first.ensures ∙ ap (λ (p : Prefix). first 32 p.value p.len) c.new.ensures
    ∙ ap (λ (r : Route). first 32 r.value a.x.depth) c.route_at.ensures)
