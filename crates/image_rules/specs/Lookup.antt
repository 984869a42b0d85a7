-- Defines the lookup on any words: RULES, "Lookup in an image". Sums are exact: a damaged offset points past the nodes lent and
-- never wraps. Assumes nothing.
use Rattle.std.specs.Prelude.{Bool, true, cond, ◌&&◌, List, ℕ, zero, suc, ◌+◌, ◌*◌, ◌/◌, ◌%◌, ◌^◌, ◌<◌, eqb, ltb, leb, length, get_or, ◌≡◌}
use Rattle.bits.specs.Bitmap.{slot_bit, ones_before, zeros_before}
use Rattle.refusals.specs.Refusals.{not_in_order, wrong_stride, found, lost}
use Rattle.routes.specs.Bounds.{last_port}
use Rattle.image_rules.specs.Node.{is_node, bitmap_of, next_of, base_of, is_based}
use Rattle.refusals.specs.declared.found.Found.{Found}

-- the slot of the address where k levels are left below it
abbrev pub address_slot : ℕ → ℕ → ℕ → ℕ
address_slot s addr k = addr / 2 ^ (s * k) % 2 ^ s

-- "on a leaf, the port at leaf base plus the number of ones in the slots before j"
abbrev pub leaf_of : ℕ → List ℕ → ℕ → ℕ → ℕ
leaf_of n nodes a j = base_of n nodes a + ones_before n (bitmap_of nodes a) j

-- "else node a plus offset plus the number of zeros before j"
abbrev pub child_at : ℕ → List ℕ → ℕ → ℕ → ℕ
child_at n nodes a j = next_of nodes a + zeros_before n (bitmap_of nodes a) j

-- 11 for "a leaf number past the ports lent, a port above 4094"
abbrev pub leaf_at : List ℕ → ℕ → ℕ → Found
leaf_at ports l reads =
    cond (ltb l (length ports))
    (cond (leb (get_or ports l 0) last_port) (found (get_or ports l 0) reads) (lost not_in_order reads))
    (lost not_in_order reads)

-- a node read is sound but for "a bitmap of 2^(2^s) or more", and "where a + offset is below 2 or the leaf base would be negative"
abbrev pub is_sound : ℕ → List ℕ → ℕ → Bool
is_sound s nodes a = ltb (bitmap_of nodes a) (2 ^ (2 ^ s)) && is_based (2 ^ s) nodes a

-- From node a on, where k levels are left. 11 for what is no node, which "adds none" to the nodes read; for a node that is not sound,
-- leaf or not; and with no level left, for "a non-leaf at depth [w-s]", whose node is counted already.
unfoldable pub walk : ℕ → List ℕ → List ℕ → ℕ → ℕ → ℕ → ℕ → Found
walk s nodes ports addr zero a reads = lost not_in_order reads
walk s nodes ports addr (suc k) a reads =
    cond (is_node nodes a)
    (cond (is_sound s nodes a)
    (cond (eqb (slot_bit (2 ^ s) (bitmap_of nodes a) (address_slot s addr k)) 1)
    (leaf_at ports (leaf_of (2 ^ s) nodes a (address_slot s addr k)) (reads + 1))
    (walk s nodes ports addr k (child_at (2 ^ s) nodes a (address_slot s addr k)) (reads + 1)))
    (lost not_in_order (reads + 1)))
    (lost not_in_order reads)

-- "Stride s is 1, 2 or 4."
abbrev pub is_stride : ℕ → Bool
is_stride s = cond (eqb s 1) true (cond (eqb s 2) true (eqb s 4))

-- "its lookup 12, then 11": from the root, on all levels of a w-bit address
unfoldable pub lookup_words : ℕ → ℕ → List ℕ → List ℕ → ℕ → Found
lookup_words w s nodes ports addr = cond (is_stride s) (walk s nodes ports addr (w / s) 1 0) (lost wrong_stride 0)

-- w-bit addresses are whole strides of s bits
pub record Strided (w s : ℕ) : Type 0 where
  pub stride : is_stride s ≡ true
  pub some : 0 < w
  pub whole : w % s ≡ 0
