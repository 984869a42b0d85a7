use mathlib.Core.Path.{◌≡◌, refl}
use Prim.Native.Nat.{◌+◌}
use native.Mathlib.Omega.{arith}
use Rattle.routes.specs.Routes.{route_at}
use Rattle.image_stretch.specs.Stretches.{stretch_slots}
use Rattle.image_stretch.proofs.QueueLoop.{queue_loop_none, queue_loop_number, queue_loop_in, queue_loop_room, queue_loop_more, queue_loop_all}
use Rattle.image_build.proofs.fill.Source.build_nodes.Invariants.{all_of}
use Rattle.image_build.proofs.fill.Source.build_nodes.Goals as goal

pub loop-at-init : goal.loop-at-init
loop-at-init c = let a = c.args in
    queue_loop_none 32 (route_at a.self.list.now) a.self.stride a.self.slots a.n (stretch_slots 32 (route_at a.self.list.now) a.self.stride a.self.slots) (all_of a.self.list.now a.n a.self.stride a.self.slots)
    a.nodes.now a.ports.now c.requires.2 c.requires.1 refl

pub build_node-st-requires : goal.build_node-st-requires
build_node-st-requires c = let a = c.args in
    let l = c.loop-at in
    let h = c.loop-at-test.true in
    let q = queue_loop_room 32 (route_at a.self.list.now) a.self.stride a.self.slots a.n (stretch_slots 32 (route_at a.self.list.now) a.self.stride a.self.slots) (all_of a.self.list.now a.n a.self.stride a.self.slots)
    a.nodes.now a.ports.now c.requires.2 l.nodes l.ports l.at.0 l.st l.invariant h in (
      c.requires.0,
      (queue_loop_number 32 (route_at a.self.list.now) a.self.stride a.self.slots a.n (stretch_slots 32 (route_at a.self.list.now) a.self.stride a.self.slots) (all_of a.self.list.now a.n a.self.stride a.self.slots)
          a.nodes.now a.ports.now c.requires.2 l.nodes l.ports l.at.0 l.st l.invariant).0,
      h,
      q.0,
      q.1,
      q.2,
      q.3,
    )

pub loop-at-smaller : goal.loop-at-smaller
loop-at-smaller c = let a = c.args in
    let l = c.loop-at in
    let h = c.loop-at-test.true in
    let g = queue_loop_in 32 (route_at a.self.list.now) a.self.stride a.self.slots a.n (stretch_slots 32 (route_at a.self.list.now) a.self.stride a.self.slots) (all_of a.self.list.now a.n a.self.stride a.self.slots)
    a.nodes.now a.ports.now c.requires.2 l.nodes l.ports l.at.0 l.st l.invariant h in
    omega (
      arith,
      g,
      c.plus-at.ensures,
      h,
      (queue_loop_room 32 (route_at a.self.list.now) a.self.stride a.self.slots a.n (stretch_slots 32 (route_at a.self.list.now) a.self.stride a.self.slots) (all_of a.self.list.now a.n a.self.stride a.self.slots)
          a.nodes.now a.ports.now c.requires.2 l.nodes l.ports l.at.0 l.st l.invariant h).0,
    )

pub loop-at-preserved : goal.loop-at-preserved
loop-at-preserved c = let a = c.args in
    let l = c.loop-at in
    let h = c.loop-at-test.true in
    let f = c.build_node-st in
    let e : c.plus-at.result.0 ≡ l.at.0 + 1 = omega (
      arith,
      c.plus-at.ensures,
      h,
      (queue_loop_room 32 (route_at a.self.list.now) a.self.stride a.self.slots a.n (stretch_slots 32 (route_at a.self.list.now) a.self.stride a.self.slots) (all_of a.self.list.now a.n a.self.stride a.self.slots)
          a.nodes.now a.ports.now c.requires.2 l.nodes l.ports l.at.0 l.st l.invariant h).0,
    ) in
    queue_loop_more 32 (route_at a.self.list.now) a.self.stride a.self.slots a.n (stretch_slots 32 (route_at a.self.list.now) a.self.stride a.self.slots) (all_of a.self.list.now a.n a.self.stride a.self.slots)
    a.nodes.now a.ports.now c.requires.2 l.nodes l.ports l.at.0 l.st l.invariant h e f.ensures.0 f.ensures.1 f.ensures.2

pub shape_of-nodes : goal.shape_of-nodes
shape_of-nodes c = c.loop-at.invariant.nodes_lent

pub shape_of-ports : goal.shape_of-ports
shape_of-ports c = c.loop-at.invariant.ports_lent

pub returns : goal.returns
returns c = let a = c.args in
    let l = c.loop-at in
    queue_loop_all 32 (route_at a.self.list.now) a.self.stride a.self.slots a.n (stretch_slots 32 (route_at a.self.list.now) a.self.stride a.self.slots) (all_of a.self.list.now a.n a.self.stride a.self.slots)
    a.nodes.now a.ports.now c.requires.2 l.nodes l.ports l.at.0 l.st l.invariant c.loop-at-test.false
