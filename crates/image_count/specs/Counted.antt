-- Defines how many nodes the image of a list of words has, and how many it has at most: RULES, "The image". Assumes nothing.
use Rattle.std.specs.Prelude.{cond, ◌&&◌, List, ℕ, ◌+◌, ◌-◌, ◌*◌, leb}
use Rattle.routes.specs.Bounds.{most_routes}
use Rattle.routes.specs.Routes.{route_at, route_count}
use Rattle.image_rules.specs.Lookup.{is_stride}
use Rattle.image_stretch.specs.Count.{nodes_count}

-- the nodes of the image of a list; none for what is no stride, and for more routes than a list may have
unfoldable pub counted_nodes : ℕ → List ℕ → ℕ → ℕ
counted_nodes w list s = cond (is_stride s && leb (route_count list) most_routes) (nodes_count w (route_at list) (route_count list) s) 0

-- the root, and for each of the most routes of a list a node at each depth below it
abbrev pub most_nodes : ℕ → ℕ
most_nodes w = 1 + most_routes * (w - 1)
