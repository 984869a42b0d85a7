use Prim.Native.Nat.{◌-◌, ◌≤◌}
use Rattle.routes.specs.Routes.{route_at}
use Rattle.image_stretch.specs.Memory.{owed}
use Rattle.image_stretch.specs.Stretches.{stretch_slot}
use Rattle.image_stretch.proofs.SlotLoop.{SlotsDone}
use Rattle.image_search.proofs.Searching.{Searching}
use Rattle.image_build.proofs.fill.Source.fill_node.Given as goal

abbrev pub invariant-loop-j : goal.invariant-loop-j
invariant-loop-j l = SlotsDone (stretch_slot 32 (route_at l.self.list.now) l.self.stride l.x) l.self.slots l.initial.nodes l.initial.ports l.initial.st.node.0 l.initial.st.leaf.0 l.nodes (owed l.ports l.kept l.st.leaf.0 l.x.best) l.j l.st
    × Searching 32 (route_at l.self.list.now) l.self.stride l.self.slots l.x l.j l.search
    × (l.kept ≤ l.st.leaf.0)

abbrev pub decreases-loop-j : goal.decreases-loop-j
decreases-loop-j l = l.self.slots - l.j
