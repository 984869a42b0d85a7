-- States what this layer is there for: RULES, "The image". Proofs are in proofs/. Assumes nothing.
use Rattle.std.specs.Prelude.{◌≡◌, true, List, ℕ, ◌/◌, ◌^◌, ◌<◌, length}
use Rattle.routes.specs.Routes.{ValidList}
use Rattle.routes.specs.declared.Route.{Route}
use Rattle.image_rules.specs.Node.{is_node, store_nodes}
use Rattle.image_rules.specs.Breadth.{tree_words, tree_ports}
use Rattle.image_rules.specs.Image.{image_paths, image_nodes, image_ports, routes_of}
use Rattle.image_rules.specs.Lookup.{Strided}
use Rattle.image_stretch.specs.declared.Stretch.{Stretch}
use Rattle.image_stretch.specs.Stretches.{half_word, stretch_slots, stretches}
use Rattle.image_stretch.specs.Count.{nodes_count}
use Rattle.image_stretch.specs.Memory.{in_halves, pending, pending_at}
use Rattle.image_stretch.specs.Needs.{Fits}

-- the tree of stretches of a valid list has the words and the ports of its image
abbrev pub StretchesImage : Type 0
StretchesImage =
    (w s : ℕ) (R : ℕ → Route) (n : ℕ) → Strided w s → ValidList w R n
    → (tree_words (stretch_slots w R s (2 ^ s)) (stretches w R s n) ≡ image_nodes s (w / s) (routes_of w R n))
    × (tree_ports (stretch_slots w R s (2 ^ s)) (stretches w R s n) ≡ image_ports s (w / s) (routes_of w R n))

-- one pass over a valid list counts the nodes of its image
abbrev pub CountIs : Type 0
CountIs =
    (w s : ℕ) (R : ℕ → Route) (n : ℕ) → Strided w s → ValidList w R n
    → nodes_count w R n s ≡ length (image_paths s (w / s) (routes_of w R n))

-- a node still to do, at any depth that half a word holds, fits the two words of its node, and is read back as it was
abbrev pub PendingFits : Type 0
PendingFits =
    (x : Stretch) → Fits x → x.depth < half_word → (in_halves x.lo x.hi < 2 ^ 32) × (in_halves x.depth x.best < 2 ^ 32)

abbrev pub PendingBack : Type 0
PendingBack =
    (nodes : List ℕ) (a : ℕ) (x : Stretch) → is_node nodes a ≡ true → Fits x → pending_at (store_nodes nodes a (pending x)) a ≡ x
