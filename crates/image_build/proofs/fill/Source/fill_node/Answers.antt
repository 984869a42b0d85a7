use mathlib.Core.Path.{◌≡◌, sym, ap, ◌∙◌, subst}
use mathlib.Core.List.{List}
use Prim.Native.Nat.{ℕ, ◌+◌, ◌-◌}
use native.Mathlib.Omega.{arith}
use lib.ListN.{length, replicate}
use lib.Pow.{pow_mono}
use lib.Seq.{length-sets}
use Rattle.entries.proofs.Filled.{stretch_none}
use Rattle.routes.specs.Routes.{route_at}
use Rattle.image_stretch.specs.declared.Filled.{Filled}
use Rattle.image_stretch.specs.Memory.{filled, owed}
use Rattle.image_stretch.specs.Stretches.{slot_in, stretch_slot}
use Rattle.image_stretch.proofs.SlotLoop.{SlotsDone, slot_loop_none, slot_loop_more, slot_loop_room, slot_loop_leaves, slot_loop_leaves_room, slot_loop_all}
use Rattle.image_search.proofs.Searching.{searching_first, searching_later, searching_more, slot_clear, slot_found}
use Rattle.image_build.proofs.LeafSlots.{owed_more, owed_all, kept_le}
use Rattle.image_build.proofs.SlotReturns.{slot_needs}
use Rattle.image_build.proofs.fill.Source.fill_node.Goals as goal

pub loop-j-init : goal.loop-j-init
loop-j-init c = let a = c.args in (
  subst (λ (ps : List ℕ). SlotsDone (stretch_slot 32 (route_at a.self.list.now) a.self.stride a.x) a.self.slots a.nodes.now a.ports.now a.at.node.0 a.at.leaf.0 a.nodes.now ps 0 (filled 0 a.at.node.0 a.at.leaf.0))
      (sym (stretch_none a.ports.now a.at.leaf.0 a.at.leaf.0 a.x.best (omega arith)))
      (slot_loop_none (stretch_slot 32 (route_at a.self.list.now) a.self.stride a.x) a.self.slots a.nodes.now a.ports.now a.at.node.0 a.at.leaf.0 c.requires.2),
  searching_first 32 (route_at a.self.list.now) a.self.stride a.self.slots a.x c.requires.1.fits _ c.address_of-address.ensures _ c.search_from-search.ensures,
  omega arith,
)

pub skip_leaves-st-requires : goal.skip_leaves-st-requires
skip_leaves-st-requires c = let a = c.args in
    let l = c.loop-j in
    let g = c.address_of-address in
    let h = c.loop-j-test.true in
    let r = slot_loop_leaves_room (stretch_slot 32 (route_at a.self.list.now) a.self.stride a.x) a.self.slots a.nodes.now a.ports.now a.at.node.0 a.at.leaf.0 a.x.best (l.search.clear - l.j) l.nodes (owed l.ports l.kept l.st.leaf.0 a.x.best) l.j l.st l.invariant.0 (omega (arith, l.invariant.1.clear.few, h))
    (λ i p q. slot_clear 32 (route_at a.self.list.now) a.self.stride a.self.slots a.x c.requires.1.fits _ g.ensures l.j l.search l.invariant.1 i p (omega arith)) c.requires.4 in (
      omega (arith, l.invariant.1.clear.few, c.requires.0),
      omega (arith, l.invariant.0.small, pow_mono {i = l.j} {j = 16} (omega (arith, h, c.requires.0))),
      omega (arith, r, l.invariant.0.ports_lent),
    )

pub loop-j-smaller-then-j-search : goal.loop-j-smaller-then-j-search
loop-j-smaller-then-j-search c = omega (arith, c.if-j-search.true, c.loop-j-test.true, c.loop-j.invariant.1.clear.few)

pub loop-j-preserved-then-j-search : goal.loop-j-preserved-then-j-search
loop-j-preserved-then-j-search c = let a = c.args in
    let l = c.loop-j in
    let g = c.address_of-address in
    let h = c.if-j-search.true in
    let f = c.skip_leaves-st in
    let e : f.result.leaf.0 ≡ l.st.leaf.0 + (l.search.clear - l.j) = ap (λ (u : Filled). u.leaf.0) f.ensures in (
      slot_loop_leaves (stretch_slot 32 (route_at a.self.list.now) a.self.stride a.x) a.self.slots a.nodes.now a.ports.now a.at.node.0 a.at.leaf.0 a.x.best (l.search.clear - l.j) l.nodes (owed l.ports l.kept l.st.leaf.0 a.x.best) l.j l.st l.invariant.0 (omega (arith, l.invariant.1.clear.few, h))
          (λ i p q. slot_clear 32 (route_at a.self.list.now) a.self.stride a.self.slots a.x c.requires.1.fits _ g.ensures l.j l.search l.invariant.1 i p (omega arith))
          l.search.clear (omega (arith, h)) (owed l.ports l.kept f.result.leaf.0 a.x.best)
          (owed_more l.ports l.kept l.st.leaf.0 (l.search.clear - l.j) f.result.leaf.0 a.x.best l.invariant.2 e) f.result f.ensures,
      searching_later 32 (route_at a.self.list.now) a.self.stride a.self.slots a.x c.requires.1.fits _ g.ensures l.j l.search l.invariant.1 l.search.clear (omega (arith, h)),
      omega (arith, e, l.invariant.2),
    )

pub fill_slot-st-requires : goal.fill_slot-st-requires
fill_slot-st-requires c = let a = c.args in
    let l = c.loop-j in
    let y = c.find_slot-y in
    let g = c.address_of-address in
    let h = c.loop-j-test.true in
    let e = slot_found 32 (route_at a.self.list.now) a.self.stride a.self.slots a.x c.requires.1.fits _ g.ensures l.j l.search l.invariant.1 h y.result y.ensures in
    let r = slot_loop_room (stretch_slot 32 (route_at a.self.list.now) a.self.stride a.x) a.self.slots a.nodes.now a.ports.now a.at.node.0 a.at.leaf.0
    l.nodes (owed l.ports l.kept l.st.leaf.0 a.x.best) l.j l.st l.invariant.0 h c.requires.0 (slot_in (route_at a.self.list.now) y.result) (ap (slot_in (route_at a.self.list.now)) e) c.requires.3 c.requires.4 in
    let f = slot_needs 32 (route_at a.self.list.now) a.self.stride a.x y.result l.j e c.requires.1.fits in
    (l.invariant.2, c.requires.1.fits.port_fits, f.0, omega (arith, f.1, c.requires.1.deep), r.0, l.invariant.0.numbered, r.1, omega (arith, r.2, length-sets l.ports l.kept (replicate (l.st.leaf.0 - l.kept) a.x.best)))

pub overflow_add-j : goal.overflow_add-j
overflow_add-j c = omega (arith, c.loop-j-test.true, c.requires.0)

pub loop-j-smaller : goal.loop-j-smaller
loop-j-smaller c = omega (arith, c.loop-j-test.true)

pub loop-j-preserved : goal.loop-j-preserved
loop-j-preserved c = let a = c.args in
    let l = c.loop-j in
    let y = c.find_slot-y in
    let g = c.address_of-address in
    let h = c.loop-j-test.true in
    let e = slot_found 32 (route_at a.self.list.now) a.self.stride a.self.slots a.x c.requires.1.fits _ g.ensures l.j l.search l.invariant.1 h y.result y.ensures in
    let f = c.fill_slot-st in
    let k = c.kept_after-kept in
    let n = c.search_after-search in (
      slot_loop_more (stretch_slot 32 (route_at a.self.list.now) a.self.stride a.x) a.self.slots a.nodes.now a.ports.now a.at.node.0 a.at.leaf.0
          l.nodes (owed l.ports l.kept l.st.leaf.0 a.x.best) l.j l.st l.invariant.0 h (slot_in (route_at a.self.list.now) y.result) (ap (slot_in (route_at a.self.list.now)) e) f.ensures.0 f.ensures.1
          (f.ensures.2 k.result k.ensures),
      searching_more 32 (route_at a.self.list.now) a.self.stride a.self.slots a.x c.requires.1.fits _ g.ensures l.j l.search l.invariant.1 c.requires.1.parted h
          y.result e n.result n.ensures,
      kept_le l.kept l.st.leaf.0 f.result.leaf.0 k.result l.invariant.2 k.ensures,
    )

pub overflow_cast-x : goal.overflow_cast-x
overflow_cast-x c = omega (arith, c.requires.1.fits.port_fits)

pub shape_of-nodes : goal.shape_of-nodes
shape_of-nodes c = c.loop-j.invariant.0.nodes_lent

pub shape_of-ports : goal.shape_of-ports
shape_of-ports c = let l = c.loop-j in
    ap length (owed_all l.ports _ l.kept c.args.x.best l.st l.invariant.0 c.requires.4 c.fill.ensures) ∙ l.invariant.0.ports_lent

pub returns : goal.returns
returns c = let a = c.args in
    let l = c.loop-j in
    let o = slot_loop_all (stretch_slot 32 (route_at a.self.list.now) a.self.stride a.x) a.self.slots a.nodes.now a.ports.now a.at.node.0 a.at.leaf.0 l.nodes (owed l.ports l.kept l.st.leaf.0 a.x.best) l.j l.st l.invariant.0 c.loop-j-test.false in
    (o.0, o.1, owed_all l.ports _ l.kept a.x.best l.st l.invariant.0 c.requires.4 c.fill.ensures ∙ o.2)
