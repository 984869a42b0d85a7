-- Defines what a build of the image answers and leaves: RULES, "The image", "Order of the checks" and "Refusals".
-- Assumes nothing.
use Rattle.std.specs.Prelude.{cond, ◌&&◌, List, ℕ, ◌/◌, eqb, leb, length, Result, Ok, Err}
use Rattle.promise.specs.Over.{over}
use Rattle.trie.specs.Routes.{Route}
use Rattle.refusals.specs.Refusals.{no_room, wrong_stride, number_of}
use Rattle.refusals.specs.declared.Refusal.{Refusal}
use Rattle.routes.specs.Routes.{route_at, route_count}
use Rattle.routes.specs.Check.{list_check}
use Rattle.image_rules.specs.Image.{image_paths, image_nodes, image_ports, routes_of}
use Rattle.image_rules.specs.Lookup.{is_stride}
use Rattle.image_build.specs.declared.Built.{Built}
use Rattle.image_build.specs.declared.Written.{Written}

-- what a build answers, and what it leaves in the two memories that it was lent to write
pub record Left : Type 0 where
  pub built : Built
  pub nodes : List ℕ
  pub ports : List ℕ

abbrev pub left : Built → List ℕ → List ℕ → Left
left built nodes ports = record { built = built; nodes = nodes; ports = ports }

-- "A refusal returns its number and a place, all other results 0"
abbrev pub refused_build : ℕ → ℕ → Built
refused_build number place = record { number = number; place = place; nodes = 0; ports = 0 }

-- "0 | done | 0", with the nodes and the ports written
abbrev pub done_build : ℕ → ℕ → Built
done_build nodes ports = record { number = 0; place = 0; nodes = nodes; ports = ports }

-- what a build's answer tells of it
abbrev pub built_of : Result Written Refusal → Built
built_of (Ok x) = done_build x.nodes x.ports
built_of (Err r) = refused_build (number_of r.fault) r.place

-- the routes of a list of words
abbrev pub list_routes : ℕ → List ℕ → List Route
list_routes w list = routes_of w (route_at list) (route_count list)

-- "9 for nodes or ports": the image of the routes, if both memories lent have room for it
abbrev pub image_into : ℕ → ℕ → List Route → List ℕ → List ℕ → Left
image_into s k rs nodes ports =
    cond (leb (length (image_nodes s k rs)) (length nodes) && leb (length (image_ports s k rs)) (length ports))
    (left (done_build (length (image_paths s k rs)) (length (image_ports s k rs))) (over (image_nodes s k rs) nodes) (over (image_ports s k rs) ports))
    (left (refused_build no_room 0) nodes ports)

-- "Image: 12, the list checks, then 9 for nodes or ports". A refusal "writes no lent memory".
unfoldable pub build_image : ℕ → ℕ → List ℕ → List ℕ → List ℕ → Left
build_image w s list nodes ports =
    cond (is_stride s)
    (cond (eqb (list_check w list).number 0)
    (image_into s (w / s) (list_routes w list) nodes ports)
    (left (refused_build (list_check w list).number (list_check w list).place) nodes ports))
    (left (refused_build wrong_stride 0) nodes ports)
