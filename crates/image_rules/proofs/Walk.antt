-- One turn of the walk, by what stands in the words; how many nodes it reads at most, and the largest port. Assumes nothing.
use mathlib.Core.Path.{◌≡◌, refl}
use mathlib.Core.Bool.{Bool, true, false, cond}
use mathlib.Core.List.{List}
use Prim.Native.Nat.{ℕ, zero, suc, ◌+◌, ◌/◌, ◌^◌, ◌≤◌, ◌<◌}
use native.Mathlib.Omega.{arith}
use lib.Dec.{eqb, ltb, leb}
use lib.ListN.{length, get_or}
use borrow.Author.Tests.{lt-ltb, le-leb, leb-true}
use Rattle.bits.specs.Bitmap.{slot_bit}
use Rattle.refusals.specs.Refusals.{not_in_order, wrong_stride, found, lost}
use Rattle.routes.specs.Bounds.{last_port}
use Rattle.image_rules.specs.Node.{is_node, bitmap_of}
use Rattle.image_rules.specs.Lookup.{address_slot, leaf_of, child_at, leaf_at, is_sound, walk, is_stride, lookup_words}
use Rattle.refusals.specs.declared.found.Found.{Found}
use Rattle.image_rules.specs.Theorems.{ReadsLe, PortsLe}

pub leaf_at_is : (ports : List ℕ) (l p reads : ℕ) → l < length ports → get_or ports l 0 ≡ p → p ≤ last_port
    → leaf_at ports l reads ≡ found p reads
leaf_at_is ports l p reads h e k = rw (lt-ltb l (length ports) h, e, le-leb p last_port k)

-- a sound node
module _ (s : ℕ) (nodes ports : List ℕ) (addr k a reads : ℕ)
    (node : is_node nodes a ≡ true) (sound : is_sound s nodes a ≡ true) where
  pub walk_leaf : slot_bit (2 ^ s) (bitmap_of nodes a) (address_slot s addr k) ≡ 1
      → walk s nodes ports addr (suc k) a reads ≡ leaf_at ports (leaf_of (2 ^ s) nodes a (address_slot s addr k)) (reads + 1)
  unfolding walk
  walk_leaf e = rw (node, sound, e)

  pub walk_child : slot_bit (2 ^ s) (bitmap_of nodes a) (address_slot s addr k) ≡ 0
      → walk s nodes ports addr (suc k) a reads ≡ walk s nodes ports addr k (child_at (2 ^ s) nodes a (address_slot s addr k)) (reads + 1)
  unfolding walk
  walk_child e = rw (node, sound, e)

-- nodes read

reads_leaf : (ports : List ℕ) (l reads : ℕ) → (leaf_at ports l reads).reads ≡ reads
reads_leaf ports l reads = by (ltb l (length ports)) (leb (get_or ports l 0) last_port)
  where
    by : (b c : Bool)
        → (cond b (cond c (found (get_or ports l 0) reads) (lost not_in_order reads)) (lost not_in_order reads)).reads ≡ reads
    by true true = refl
    by true false = refl
    by false c = refl

reads_turn : (node sound one : Bool) (end next : Found) (reads k : ℕ) → end.reads ≡ reads + 1 → next.reads ≤ reads + 1 + k
    → (cond node (cond sound (cond one end next) (lost not_in_order (reads + 1))) (lost not_in_order reads)).reads ≤ reads + suc k
reads_turn true true true end next reads k h l = omega arith
reads_turn true true false end next reads k h l = omega arith
reads_turn true false one end next reads k h l = omega arith
reads_turn false sound one end next reads k h l = omega arith

pub reads_walk : (s : ℕ) (nodes ports : List ℕ) (addr k a reads : ℕ) → (walk s nodes ports addr k a reads).reads ≤ reads + k
unfolding walk
reads_walk s nodes ports addr zero a reads = omega arith
reads_walk s nodes ports addr (suc k) a reads =
    reads_turn (is_node nodes a) (is_sound s nodes a)
    (eqb (slot_bit (2 ^ s) (bitmap_of nodes a) (address_slot s addr k)) 1)
    (leaf_at ports (leaf_of (2 ^ s) nodes a (address_slot s addr k)) (reads + 1))
    (walk s nodes ports addr k (child_at (2 ^ s) nodes a (address_slot s addr k)) (reads + 1)) reads k
    (reads_leaf ports (leaf_of (2 ^ s) nodes a (address_slot s addr k)) (reads + 1))
    (reads_walk s nodes ports addr k (child_at (2 ^ s) nodes a (address_slot s addr k)) (reads + 1))

pub reads_le : ReadsLe
unfolding lookup_words
reads_le w s nodes ports a = by (is_stride s)
  where
    by : (b : Bool) → (cond b (walk s nodes ports a (w / s) 1 0) (lost wrong_stride 0)).reads ≤ w / s
    by true = omega (arith, reads_walk s nodes ports a (w / s) 1 0)
    by false = omega arith

-- ports

port_leaf : (ports : List ℕ) (l reads : ℕ) → (leaf_at ports l reads).port ≤ last_port
port_leaf ports l reads = by (ltb l (length ports)) (leb (get_or ports l 0) last_port) refl
  where
    by : (b c : Bool) → leb (get_or ports l 0) last_port ≡ c
        → (cond b (cond c (found (get_or ports l 0) reads) (lost not_in_order reads)) (lost not_in_order reads)).port ≤ last_port
    by true true e = leb-true (get_or ports l 0) last_port e
    by true false e = omega arith
    by false c e = omega arith

port_turn : (node sound one : Bool) (end next : Found) (reads : ℕ) → end.port ≤ last_port → next.port ≤ last_port
    → (cond node (cond sound (cond one end next) (lost not_in_order (reads + 1))) (lost not_in_order reads)).port ≤ last_port
port_turn true true true end next reads h l = h
port_turn true true false end next reads h l = l
port_turn true false one end next reads h l = omega arith
port_turn false sound one end next reads h l = omega arith

port_walk : (s : ℕ) (nodes ports : List ℕ) (addr k a reads : ℕ) → (walk s nodes ports addr k a reads).port ≤ last_port
unfolding walk
port_walk s nodes ports addr zero a reads = omega arith
port_walk s nodes ports addr (suc k) a reads =
    port_turn (is_node nodes a) (is_sound s nodes a)
    (eqb (slot_bit (2 ^ s) (bitmap_of nodes a) (address_slot s addr k)) 1)
    (leaf_at ports (leaf_of (2 ^ s) nodes a (address_slot s addr k)) (reads + 1))
    (walk s nodes ports addr k (child_at (2 ^ s) nodes a (address_slot s addr k)) (reads + 1)) reads
    (port_leaf ports (leaf_of (2 ^ s) nodes a (address_slot s addr k)) (reads + 1))
    (port_walk s nodes ports addr k (child_at (2 ^ s) nodes a (address_slot s addr k)) (reads + 1))

pub ports_le : PortsLe
unfolding lookup_words
ports_le w s nodes ports a = by (is_stride s)
  where
    by : (b : Bool) → (cond b (walk s nodes ports a (w / s) 1 0) (lost wrong_stride 0)).port ≤ last_port
    by true = port_walk s nodes ports a (w / s) 1 0
    by false = omega arith
