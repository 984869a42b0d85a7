-- What the builder's functions rely on between themselves: for the proofs. Assumes nothing.
use Rattle.std.specs.Prelude.{◌≡◌, List, ℕ, ◌+◌, ◌-◌, ◌*◌, ◌^◌, ◌≤◌, ◌<◌, length}
use Rattle.routes.specs.Routes.{route_at, ValidList}
use Rattle.image_rules.specs.Node.{node_size}
use Rattle.image_numbers.specs.Needs.{Stride}
use Rattle.image_stretch.specs.Count.{nodes_count}
use Rattle.image_count.specs.Counted.{most_nodes}

-- the slots of a node, at most so many
abbrev pub most_slots : ℕ
most_slots = 16

-- the image of the first n routes of a list has room, by its count, and its numbers fit a word
pub record ImageRoom (w : ℕ) (list : List ℕ) (n stride slots : ℕ) (nodes ports : List ℕ) : Type 0 where
  pub stride_of : Stride stride
  pub slots_are : slots ≡ 2 ^ stride
  pub slots_few : slots ≤ most_slots
  pub valid : ValidList w (route_at list) n
  pub nodes_fit : nodes_count w (route_at list) n stride * node_size ≤ length nodes
  pub ports_fit : nodes_count w (route_at list) n stride * (slots - 1) + 1 ≤ length ports
  pub nodes_few : nodes_count w (route_at list) n stride ≤ most_nodes w
  pub words_hold : most_nodes w < 2 ^ w
