use mathlib.Core.Path.{◌≡◌, sym, ap, ◌∙◌}
use Prim.Native.Nat.{◌+◌, ◌-◌}
use native.Mathlib.Omega.{arith}
use lib.ListN.{length, replicate}
use lib.Seq.{length-sets}
use Rattle.entries.proofs.Filled.{filled_within}
use Rattle.routes.specs.Routes.{route_at}
use Rattle.lists.specs.Flat.{flat}
use Rattle.image_rules.specs.Node.{store_nodes}
use Rattle.image_rules.specs.Breadth.{Slot, slot_children, slot_ports}
use Rattle.image_stretch.specs.declared.Stretch.{Stretch}
use Rattle.image_stretch.specs.Stretches.{slot_in}
use Rattle.image_stretch.specs.Memory.{pending}
use Rattle.image_stretch.proofs.Bounds.{leaf_port_lt}
use Rattle.image_build.proofs.LeafSlots.{owed_goes, owed_ends}
use Rattle.image_build.proofs.SlotReturns.{slot_goes, slot_ends, filled_goes, filled_ends}
use Rattle.image_build.proofs.fill.fill_slot.Goals as goal

pub store_pending-requires : goal.store_pending-requires
store_pending-requires c = let a = c.args in
    let o = slot_goes (route_at a.list.now) a.y _ c.goes_on.ensures c.if-goes_on.true in
    let n : length (slot_children (slot_in (route_at a.list.now) a.y)) ≡ 1 = ap (λ (s : Slot Stretch). length (slot_children s)) o in
    (c.requires.2, c.requires.3, record { positive = c.requires.5; within = omega (arith, n, c.requires.5, c.requires.6) })

pub returns-then-goes_on : goal.returns-then-goes_on
returns-then-goes_on c = let a = c.args in
    let o = slot_goes (route_at a.list.now) a.y _ c.goes_on.ensures c.if-goes_on.true in
    let n : length (slot_children (slot_in (route_at a.list.now) a.y)) ≡ 1 = ap (λ (s : Slot Stretch). length (slot_children s)) o in
    let next : c.plus.result.0 ≡ a.st.node.0 + 1 = omega (arith, c.plus.ensures, n, c.requires.6) in (
      filled_goes (slot_in (route_at a.list.now) a.y) a.y a.st c.plus.result o next,
      c.store_pending.ensures ∙ ap (λ (s : Slot Stretch). store_nodes a.nodes.now a.st.node.0 (flat pending (slot_children s))) (sym o),
      owed_goes a.ports.now a.kept a.st.leaf.0 a.best (slot_in (route_at a.list.now) a.y) o,
    )

pub overflow_cast-ports : goal.overflow_cast-ports
overflow_cast-ports c = omega (arith, c.leaf_port.ensures, leaf_port_lt (route_at c.args.list.now) c.args.y c.requires.2.port_fits)

pub bounds-ports-st : goal.bounds-ports-st
bounds-ports-st c = let a = c.args in
    let o = slot_ends (route_at a.list.now) a.y _ _ c.goes_on.ensures c.if-goes_on.false c.leaf_port.ensures in
    let n : length (slot_ports (slot_in (route_at a.list.now) a.y)) ≡ 1 = ap (λ (s : Slot Stretch). length (slot_ports s)) o in
    let q = c.fill.ensures ∙ filled_within a.ports.now a.kept a.st.leaf.0 a.best (omega (arith, c.requires.7)) in
    omega (arith, n, c.requires.7, ap length q, length-sets a.ports.now a.kept (replicate (a.st.leaf.0 - a.kept) a.best))

pub returns : goal.returns
returns c = let a = c.args in
    let o = slot_ends (route_at a.list.now) a.y _ _ c.goes_on.ensures c.if-goes_on.false c.leaf_port.ensures in
    let n : length (slot_ports (slot_in (route_at a.list.now) a.y)) ≡ 1 = ap (λ (s : Slot Stretch). length (slot_ports s)) o in
    let q = c.fill.ensures ∙ filled_within a.ports.now a.kept a.st.leaf.0 a.best (omega (arith, c.requires.7)) in
    let next : c.after.result.0 ≡ a.st.leaf.0 + 1 = omega (arith, c.after.ensures, n, c.requires.7) in (
      filled_ends (slot_in (route_at a.list.now) a.y) _ a.st c.after.result o next,
      ap (λ (s : Slot Stretch). store_nodes a.nodes.now a.st.node.0 (flat pending (slot_children s))) (sym o),
      owed_ends a.ports.now _ a.kept a.st.leaf.0 c.after.result.0 a.best c.leaf_port.result (slot_in (route_at a.list.now) a.y) o next q,
    )
