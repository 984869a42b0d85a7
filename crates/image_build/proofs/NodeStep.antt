-- One node built, from what the code's functions found. Assumes nothing.
use mathlib.Core.Path.{◌≡◌, sym, ap, ap₂, ◌∙◌, subst}
use mathlib.Core.List.{List}
use Prim.Native.Nat.{ℕ, ◌+◌, ◌≤◌}
use lib.ListN.{length}
use lib.Seq.{sets}
use Rattle.lists.specs.Flat.{flat}
use Rattle.routes.specs.declared.Route.{Route}
use Rattle.image_rules.specs.Node.{node_words, offset, node_start, store_nodes}
use Rattle.image_rules.specs.Breadth.{Slot, bitmap, children, leaf_ports}
use Rattle.image_stretch.specs.declared.Stretch.{Stretch}
use Rattle.image_stretch.specs.declared.Filled.{Filled}
use Rattle.image_stretch.specs.declared.Free.{Free}
use Rattle.image_stretch.specs.Memory.{pending, free, filled, build_node}
use Rattle.image_stretch.specs.Needs.{Buildable}

module _ (S : Stretch → List (Slot Stretch)) where
  -- what a node's slots rely on, for the node as it was read
  pub fill_needs : (w : ℕ) (R : ℕ → Route) (s m : ℕ) (nodes ports : List ℕ) (next base : ℕ) (x y : Stretch) → x ≡ y → Buildable w R s m y
      → node_start (next + length (children S y)) ≤ length nodes → base + length (leaf_ports S y) ≤ length ports
      → Buildable w R s m x × (node_start (next + length (children S x)) ≤ length nodes) × (base + length (leaf_ports S x) ≤ length ports)
  fill_needs w R s m nodes ports next base x y e o p q =
      subst (λ (z : Stretch). Buildable w R s m z × (node_start (next + length (children S z)) ≤ length nodes) × (base + length (leaf_ports S z) ≤ length ports))
      (sym e) (o, p, q)

  -- what building a node leaves
  pub node_built : (a next base : ℕ) (nodes ports : List ℕ) (x y : Stretch) → x ≡ y
      → (f : Filled) → f ≡ filled (bitmap (S x)) (next + length (children S x)) (base + length (leaf_ports S x))
      → {nodes' nodes'' ports' : List ℕ} → nodes' ≡ store_nodes nodes next (flat pending (children S x)) → (r : Free) → r ≡ free f.node.0 f.leaf.0
      → nodes'' ≡ store_nodes nodes' a (node_words f.bitmap (offset next a)) → ports' ≡ sets ports base (leaf_ports S x)
      → (r ≡ free (next + length (children S y)) (base + length (leaf_ports S y)))
      × (nodes'' ≡ build_node S nodes a next y) × (ports' ≡ sets ports base (leaf_ports S y))
  node_built a next base nodes ports x y e f g {nodes'} {nodes''} {ports'} p r b c q =
      subst (λ (z : Stretch). (r ≡ free (next + length (children S z)) (base + length (leaf_ports S z)))
      × (nodes'' ≡ build_node S nodes a next z) × (ports' ≡ sets ports base (leaf_ports S z))) e (
        b ∙ ap (λ (v : Filled). free v.node.0 v.leaf.0) g,
        c ∙ ap₂ (λ (l : List ℕ) (m : ℕ). store_nodes l a (node_words m (offset next a))) p (ap (λ (v : Filled). v.bitmap) g),
        q,
      )
