use Rattle.routes.specs.Routes.{route_at}
use Rattle.image_search.proofs.Found.{slot_stretch_is}
use Rattle.image_search.proofs.slot_stretch.Goals as goal

pub returns : goal.returns
returns c = let a = c.args in
    let m = c.last_match-inherited in
    slot_stretch_is 32 (route_at a.list.now) a.x a.short a.at a.place.value a.place.len m.result c.first_apart-hi.result c.seek-found.result
    m.ensures c.seek-found.ensures c.first_apart-hi.ensures
