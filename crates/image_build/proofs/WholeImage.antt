-- The image written where there is room for it: the root put first, then all nodes. Assumes nothing.
use mathlib.Core.Path.{◌≡◌, sym, ap, ap₂, ◌∙◌, subst}
use mathlib.Core.List.{List, [], ◌∷◌}
use Prim.Native.Nat.{ℕ, ◌+◌, ◌-◌, ◌*◌, ◌/◌, ◌^◌, ◌≤◌}
use native.Mathlib.Omega.{arith}
use lib.ListN.{length}
use lib.Seq.{length-sets}
use Rattle.promise.specs.Over.{over}
use Rattle.routes.specs.Routes.{route_at}
use Rattle.routes.specs.declared.Route.{Route}
use Rattle.image_rules.specs.Node.{node_size, node_start, store_nodes}
use Rattle.image_rules.specs.Breadth.{levels, tree_words, tree_ports}
use Rattle.image_rules.specs.Image.{image_nodes, image_ports, routes_of}
use Rattle.image_rules.specs.Lookup.{Strided}
use Rattle.image_stretch.specs.declared.Stretch.{Stretch}
use Rattle.image_stretch.specs.Stretches.{stretch_slots, root_of}
use Rattle.image_stretch.specs.Count.{nodes_count}
use Rattle.image_stretch.specs.Memory.{pending}
use Rattle.image_stretch.specs.Needs.{Queue}
use Rattle.image_stretch.proofs.Trees.{stretches_image}
use Rattle.image_stretch.proofs.Room.{sizes, queue_of, root_again, over_root}
use Rattle.image_build.specs.Needs.{ImageRoom}

module _ (w : ℕ) (list : List ℕ) (n s slots : ℕ) (nodes ports : List ℕ) (st : Strided w s) (r : ImageRoom w list n s slots nodes ports) where
  abbrev R : ℕ → Route
  R = route_at list

  abbrev count : ℕ
  count = nodes_count w R n s

  -- the nodes, breadth first, by the slots that the code counts
  abbrev pub all_in : List Stretch
  all_in = levels (stretch_slots w R s slots) (w / s) (root_of n ∷ [])

  ports_are_lem : count * (slots - 1) + 1 ≡ count * (2 ^ s - 1) + 1
  ports_are_lem = ap (λ (k : ℕ). count * (k - 1) + 1) r.slots_are

  some_nodes : node_size ≤ length nodes
  some_nodes = omega (arith, r.nodes_fit)

  module _ (rooted : List ℕ) (e : rooted ≡ store_nodes nodes 1 (pending (root_of n))) where
    pub root_stored : rooted ≡ store_nodes rooted 1 (pending (root_of n))
    root_stored = e ∙ root_again nodes n some_nodes ∙ ap (λ (l : List ℕ). store_nodes l 1 (pending (root_of n))) (sym e)

    length_rooted : length rooted ≡ length nodes
    length_rooted = ap length e ∙ length-sets nodes (node_start 1) (pending (root_of n))

    pub rooted_queue : Queue w R s slots n (stretch_slots w R s slots) all_in rooted ports
    rooted_queue =
        subst (λ (k : ℕ). Queue w R s k n (stretch_slots w R s k) (levels (stretch_slots w R s k) (w / s) (root_of n ∷ [])) rooted ports) (sym r.slots_are)
        (queue_of w s list n st r.valid rooted ports (omega (arith, length_rooted, r.nodes_fit)) (omega (arith, ports_are_lem, r.ports_fit))
        (omega (arith, r.nodes_few, r.words_hold)))

    image_is : (tree_words (stretch_slots w R s slots) all_in ≡ image_nodes s (w / s) (routes_of w R n))
        × (tree_ports (stretch_slots w R s slots) all_in ≡ image_ports s (w / s) (routes_of w R n))
    image_is =
        subst (λ (k : ℕ). (tree_words (stretch_slots w R s k) (levels (stretch_slots w R s k) (w / s) (root_of n ∷ [])) ≡ image_nodes s (w / s) (routes_of w R n))
        × (tree_ports (stretch_slots w R s k) (levels (stretch_slots w R s k) (w / s) (root_of n ∷ [])) ≡ image_ports s (w / s) (routes_of w R n))) (sym r.slots_are)
        (stretches_image w s R n r.valid st)

    -- what is left
    pub image_written : {nodes' ports' : List ℕ} → nodes' ≡ over (tree_words (stretch_slots w R s slots) all_in) rooted
        → ports' ≡ over (tree_ports (stretch_slots w R s slots) all_in) ports
        → (nodes' ≡ over (image_nodes s (w / s) (routes_of w R n)) nodes) × (ports' ≡ over (image_ports s (w / s) (routes_of w R n)) ports)
    image_written a b = (
      a ∙ ap₂ (λ (o l : List ℕ). over o l) image_is.0 e
          ∙ over_root (image_nodes s (w / s) (routes_of w R n)) nodes n (omega (arith, (sizes w s list n st r.valid).1)) some_nodes,
      b ∙ ap (λ (o : List ℕ). over o ports) image_is.1,
    )
