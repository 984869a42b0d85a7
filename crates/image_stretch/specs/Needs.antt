-- What a builder's functions rely on between themselves: for the proofs. Assumes nothing.
use Rattle.std.specs.Prelude.{◌≡◌, true, false, List, ◌∷◌, ℕ, ◌+◌, ◌-◌, ◌*◌, ◌^◌, ◌≤◌, ◌<◌, length, get_or}
use Rattle.bits.specs.Prefix.{span}
use Rattle.lists.specs.Flat.{flat}
use Rattle.routes.specs.Scan.{route_matches}
use Rattle.routes.specs.declared.Route.{Route}
use Rattle.image_rules.specs.Node.{node_size}
use Rattle.image_rules.specs.Breadth.{Slot, children, leaf_ports}
use Rattle.image_stretch.specs.declared.Stretch.{Stretch}
use Rattle.image_stretch.specs.Stretches.{half_word, stands_before, slot_first, stretch_at, root_of}
use Rattle.image_stretch.specs.Memory.{used_after}

-- x is a stretch that fits a node's words
pub record Fits (x : Stretch) : Type 0 where
  pub ordered : x.lo ≤ x.hi
  pub rows_fit : x.hi < half_word
  pub port_fits : x.best < half_word

-- the slots part the node's routes: those up to the end of one stand before each later one, and those in one match no later one
pub record Parted (w : ℕ) (R : ℕ → Route) (s m : ℕ) (x : Stretch) : Type 0 where
  pub ahead : (j i k : ℕ) → j < i → i < m → x.lo ≤ k → k < (stretch_at w R s x j).hi → stands_before R (slot_first w R s x i) (x.depth + s) k ≡ true
  pub apart : (j i k : ℕ) → j < i → i < m → (stretch_at w R s x j).lo ≤ k → k < (stretch_at w R s x j).hi
      → route_matches w (slot_first w R s x i) (R k) ≡ false

-- of m slots those before slot r have no route from `at` on, and no route of the node before it matches them: they are leaves with the
-- node's port
pub record Clear (w : ℕ) (R : ℕ → Route) (m : ℕ) (x : Stretch) (short at address l r : ℕ) : Type 0 where
  pub few : r ≤ m
  pub none : 0 < r → short ≡ at
  pub later : at < x.hi → r * span w l ≤ (R at).value - address

-- a node still to be built: it has m slots below it, s bits deeper
pub record Buildable (w : ℕ) (R : ℕ → Route) (s m : ℕ) (x : Stretch) : Type 0 where
  pub fits : Fits x
  pub deep : x.depth + s ≤ w
  pub parted : Parted w R s m x

-- what a builder's loop relies on, for the nodes `all` breadth first
pub record Queue (w : ℕ) (R : ℕ → Route) (s m n : ℕ) (slots : Stretch → List (Slot Stretch)) (all : List Stretch) (nodes ports : List ℕ) : Type 0 where
  pub numbered : all ≡ root_of n ∷ flat (children slots) all
  pub before : (i : ℕ) → i < length all → i < used_after slots all i
  pub nodes_room : length all * node_size ≤ length nodes
  pub ports_room : length (flat (leaf_ports slots) all) ≤ length ports
  pub nodes_fit : length all < 2 ^ w
  pub buildable : (i : ℕ) → i < length all → Buildable w R s m (get_or all i (root_of n))
