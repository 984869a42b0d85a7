use mathlib.Core.List.{List, [], ◌∷◌}
use Prim.Native.Nat.{ℕ, ◌+◌, ◌-◌, ◌/◌}
use lib.ListN.{length}
use Rattle.routes.specs.Routes.{route_at}
use Rattle.image_rules.specs.Breadth.{levels}
use Rattle.image_stretch.specs.declared.Stretch.{Stretch}
use Rattle.image_stretch.specs.Stretches.{stretch_slots, root_of}
use Rattle.image_stretch.proofs.QueueLoop.{NodesDone}
use Rattle.image_build.proofs.fill.Source.build_nodes.Given as goal

-- the nodes, breadth first
abbrev pub all_of : List ℕ → ℕ → ℕ → ℕ → List Stretch
all_of list n stride slots = levels (stretch_slots 32 (route_at list) stride slots) (32 / stride) (root_of n ∷ [])

abbrev pub invariant-loop-at : goal.invariant-loop-at
invariant-loop-at l = NodesDone (stretch_slots 32 (route_at l.self.list.now) l.self.stride l.self.slots) (all_of l.self.list.now l.n l.self.stride l.self.slots) l.initial.nodes l.initial.ports l.nodes l.ports l.at.0 l.st

abbrev pub decreases-loop-at : goal.decreases-loop-at
decreases-loop-at l = length (all_of l.self.list.now l.n l.self.stride l.self.slots) + 1 - l.at.0
