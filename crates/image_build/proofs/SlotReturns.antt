-- A slot of a node, from what the code finds. Assumes nothing.
use mathlib.Core.Path.{◌≡◌, sym, ap, ◌∙◌, subst}
use mathlib.Core.Bool.{Bool, true, false, cond}
use Prim.Native.Nat.{ℕ, ◌+◌, ◌*◌}
use native.Mathlib.Nat.{add-zero}
use Rattle.routes.specs.declared.Route.{Route}
use Rattle.image_rules.specs.Breadth.{Slot, leaf, non_leaf}
use Rattle.image_numbers.specs.declared.Node.{Node}
use Rattle.image_numbers.specs.declared.Leaf.{Leaf}
use Rattle.image_stretch.specs.declared.Stretch.{Stretch}
use Rattle.image_stretch.specs.declared.Filled.{Filled}
use Rattle.image_stretch.specs.Stretches.{goes_on, leaf_port, slot_in, slot_first, stretch_at}
use Rattle.image_stretch.specs.Memory.{filled_by}
use Rattle.image_stretch.specs.Needs.{Fits}
use Rattle.image_stretch.proofs.Bounds.{slot_fits, slot_depth}

-- by the test of the last route
pub slot_goes : (R : ℕ → Route) (y : Stretch) (t : Bool) → t ≡ goes_on R y → t ≡ true → slot_in R y ≡ non_leaf y
slot_goes R y t e f = ap (λ (b : Bool). cond b (non_leaf y) (leaf (leaf_port R y))) (sym e ∙ f)

pub slot_ends : (R : ℕ → Route) (y : Stretch) (t : Bool) (p : ℕ) → t ≡ goes_on R y → t ≡ false → p ≡ leaf_port R y → slot_in R y ≡ leaf p
slot_ends R y t p e f g = ap (λ (b : Bool). cond b (non_leaf y) (leaf (leaf_port R y))) (sym e ∙ f) ∙ ap leaf (sym g)

pub filled_goes : (o : Slot Stretch) (y : Stretch) (st : Filled) (next : Node) → o ≡ non_leaf y → next.0 ≡ st.node.0 + 1
    → record { bitmap = st.bitmap * 2; node = next; leaf = st.leaf } ≡ filled_by o st
filled_goes o y st next e n =
    (λ j. record { bitmap = sym (add-zero (st.bitmap * 2)) j; node = record { 0 = n j }; leaf = record { 0 = sym (add-zero st.leaf.0) j } })
    ∙ ap (λ (u : Slot Stretch). filled_by u st) (sym e)

pub filled_ends : (o : Slot Stretch) (p : ℕ) (st : Filled) (next : Leaf) → o ≡ leaf p → next.0 ≡ st.leaf.0 + 1
    → record { bitmap = st.bitmap * 2 + 1; node = st.node; leaf = next } ≡ filled_by o st
filled_ends o p st next e n =
    (λ j. record { bitmap = st.bitmap * 2 + 1; node = record { 0 = sym (add-zero st.node.0) j }; leaf = record { 0 = n j } })
    ∙ ap (λ (u : Slot Stretch). filled_by u st) (sym e)

-- the slot's stretch fits a node's words, as its node's does
pub slot_needs : (w : ℕ) (R : ℕ → Route) (s : ℕ) (x y : Stretch) (j : ℕ) → y ≡ stretch_at w R s x j → Fits x → Fits y × (y.depth ≡ x.depth + s)
slot_needs w R s x y j e f =
    subst (λ (z : Stretch). Fits z × (z.depth ≡ x.depth + s)) (sym e)
    (slot_fits w R x (slot_first w R s x j) (x.depth + s) f, slot_depth w R x (slot_first w R s x j) (x.depth + s) f)
