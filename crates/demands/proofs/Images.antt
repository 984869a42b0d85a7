-- The image of a list, where its nodes and ports are written out. Assumes nothing.
use mathlib.Core.Path.{◌≡◌}
use mathlib.Core.Bool.{true, ◌&&◌}
use mathlib.Core.List.{List}
use Prim.Native.Nat.{ℕ, ◌/◌}
use lib.Dec.{leb}
use lib.ListN.{length}
use Rattle.promise.specs.Over.{over}
use Rattle.trie.specs.Routes.{Route}
use Rattle.refusals.specs.Refusals.{accepted}
use Rattle.routes.specs.Check.{list_check}
use Rattle.image_rules.specs.Image.{image_paths, image_nodes, image_ports}
use Rattle.image_rules.specs.Lookup.{is_stride}
use Rattle.image_build.specs.Build.{left, done_build, list_routes, build_image}

module _ (s : ℕ) (list nodes ports : List ℕ) (rs : List Route) (is : list_routes 32 list ≡ rs) (fine : list_check 32 list ≡ accepted 0)
    (stride : is_stride s ≡ true) (nodes_are : image_nodes s (32 / s) rs ≡ nodes) (ports_are : image_ports s (32 / s) rs ≡ ports) where
  pub image_is : (lent_nodes lent_ports : List ℕ) → (leb (length nodes) (length lent_nodes) && leb (length ports) (length lent_ports)) ≡ true
      → build_image 32 s list lent_nodes lent_ports
      ≡ left (done_build (length (image_paths s (32 / s) rs)) (length ports)) (over nodes lent_nodes) (over ports lent_ports)
  unfolding build_image
  image_is lent_nodes lent_ports room = rw (stride, fine, is, nodes_are, ports_are, room)
