use native.Mathlib.Omega.{arith}
use Rattle.routes.specs.Routes.{route_at}
use Rattle.image_stretch.specs.Stretches.{stretch_slots}
use Rattle.image_stretch.specs.Memory.{pending_at}
use Rattle.image_build.proofs.NodeStep.{fill_needs, node_built}
use Rattle.image_build.proofs.fill.Source.build_node.Goals as goal

pub pending_at-x-requires : goal.pending_at-x-requires
pending_at-x-requires c = let p = c.requires in record { positive = p.1; within = omega (arith, p.2, p.5) }

pub fill_node-f-requires : goal.fill_node-f-requires
fill_node-f-requires c = let a = c.args in
    let x = c.pending_at-x in
    let r = fill_needs (stretch_slots 32 (route_at a.self.list.now) a.self.stride a.self.slots) 32 (route_at a.self.list.now) a.self.stride a.self.slots a.nodes.now a.ports.now a.st.node.0 a.st.leaf.0
    x.result (pending_at a.nodes.now a.at.0) x.ensures c.requires.4 c.requires.5 c.requires.6 in
    (c.requires.0, r.0, omega (arith, c.requires.2), r.1, r.2)

pub put_node-requires : goal.put_node-requires
put_node-requires c = let p = c.requires in (record { positive = p.1; within = omega (arith, p.2, p.5) }, p.3)

pub returns : goal.returns
returns c = let a = c.args in
    let x = c.pending_at-x in
    let f = c.fill_node-f in
    let p = c.put_node in
    node_built (stretch_slots 32 (route_at a.self.list.now) a.self.stride a.self.slots) a.at.0 a.st.node.0 a.st.leaf.0 a.nodes.now a.ports.now
    x.result (pending_at a.nodes.now a.at.0) x.ensures f.result f.ensures.0 f.ensures.1 p.result p.ensures.0 p.ensures.1 f.ensures.2
