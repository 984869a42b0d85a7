-- The bitmap of a node's slots: the ones before a slot are the leaves before it, the zeros the non-leaves. Assumes nothing.
use mathlib.Core.Path.{◌≡◌, refl, sym, ap, ap₂, ◌∙◌}
use mathlib.Core.List.{List, [], ◌∷◌, append-nil}
use Prim.Native.Nat.{ℕ, zero, suc, ◌+◌, ◌-◌, ◌*◌, ◌/◌, ◌^◌, ◌≤◌, ◌<◌}
use native.Mathlib.Omega.{arith}
use native.Mathlib.Nat.{add-zero, mul_comm, mul-suc, mul-zero, div-eq_of_lt, pow-suc}
use lib.Count.{ones, ones_in}
use lib.ListN.{length, get_or}
use Rattle.bits.specs.Bitmap.{slot_bit, ones_before, zeros_before}
use Rattle.bits.proofs.Bitmap.{ones_before_suc, ones_above}
use Rattle.lists.specs.Flat.{flat, upto}
use Rattle.image_rules.specs.Breadth.{Slot, leaf, non_leaf, slot_ports, slot_children, leaf_bit, bitmap, children, leaf_ports, tree_ports}
use Rattle.lists.proofs.Flat.{upto_suc, upto_append}

pub upto_all : {A B : Type 0} (f : A → List B) (xs : List A) → upto f xs (length xs) ≡ length (flat f xs)
upto_all {A} {B} f xs =
    ap₂ (λ (l : List A) (n : ℕ). upto f l n) (sym (append-nil xs)) (sym (add-zero (length xs)))
    ∙ upto_append f xs [] 0 ∙ add-zero (length (flat f xs))

module _ {X : Type 0} where
  -- a slot is a leaf or a non-leaf
  pub leaf_or_not : (o : Slot X) → leaf_bit o + length (slot_children o) ≡ 1
  leaf_or_not (leaf p) = refl
  leaf_or_not (non_leaf y) = refl

  leaf_bit_is : (o : Slot X) → leaf_bit o ≡ length (slot_ports o)
  leaf_bit_is (leaf p) = refl
  leaf_bit_is (non_leaf y) = refl

  ones_leaf_bit : (o : Slot X) → ones (leaf_bit o) ≡ length (slot_ports o)
  unfolding ones ones_in
  ones_leaf_bit (leaf p) = refl
  ones_leaf_bit (non_leaf y) = refl

  pub bitmap_lt : (os : List (Slot X)) → bitmap os < 2 ^ length os
  bitmap_lt [] = omega arith
  bitmap_lt (leaf p ∷ os) = rw (pow-suc 2 (length os)) (omega (arith, bitmap_lt os))
  bitmap_lt (non_leaf y ∷ os) = rw (pow-suc 2 (length os)) (omega (arith, bitmap_lt os))

  pub ones_before_bitmap : (os : List (Slot X)) (j : ℕ) → j ≤ length os → ones_before (length os) (bitmap os) j ≡ upto slot_ports os j
  unfolding ones ones_in
  ones_before_bitmap [] zero h = refl
  ones_before_bitmap [] (suc j) h = absurd (omega arith)
  ones_before_bitmap (o ∷ os) zero h =
      let z : suc (length os) - 0 ≡ suc (length os) = omega arith in
      let g : bitmap (o ∷ os) < 2 ^ (suc (length os) - 0) = rw z (bitmap_lt (o ∷ os)) in
      ap ones (div-eq_of_lt g)
  ones_before_bitmap (o ∷ os) (suc j) h =
      let e : suc (length os) - suc j ≡ length os - j = omega arith in
      ap (λ (k : ℕ). ones (bitmap (o ∷ os) / 2 ^ k)) e
      ∙ ones_above (leaf_bit o) (bitmap os) (length os) j (omega arith) (bitmap_lt os)
      ∙ ap₂ (λ (a b : ℕ). a + b) (ones_leaf_bit o) (ones_before_bitmap os j (omega arith))

  leaves_and_others : (os : List (Slot X)) (j : ℕ) → j ≤ length os → upto slot_ports os j + upto slot_children os j ≡ j
  leaves_and_others [] zero h = refl
  leaves_and_others [] (suc j) h = absurd (omega arith)
  leaves_and_others (o ∷ os) zero h = refl
  leaves_and_others (o ∷ os) (suc j) h =
      omega (arith, leaf_or_not o, leaf_bit_is o, leaves_and_others os j (omega arith))

  pub zeros_before_bitmap : (os : List (Slot X)) (j : ℕ) → j ≤ length os → zeros_before (length os) (bitmap os) j ≡ upto slot_children os j
  zeros_before_bitmap os j h = omega (arith, ones_before_bitmap os j h, leaves_and_others os j h)

  pub slot_bit_bitmap : (os : List (Slot X)) (j : ℕ) (d : Slot X) → j < length os
      → slot_bit (length os) (bitmap os) j ≡ leaf_bit (get_or os j d)
  slot_bit_bitmap os j d h =
      let e : j + 1 ≡ suc j = omega arith in
      let a : ones_before (length os) (bitmap os) (j + 1) ≡ upto slot_ports os (suc j) =
      ap (ones_before (length os) (bitmap os)) e ∙ ones_before_bitmap os (suc j) (omega arith) in
      omega (
        arith,
        ones_before_suc (length os) (bitmap os) j h,
        a,
        ones_before_bitmap os j (omega arith),
        upto_suc slot_ports os j d h,
        leaf_bit_is (get_or os j d),
      )

  -- every slot of a node holds a port or a child
  slots_count : (os : List (Slot X)) → length (flat slot_ports os) + length (flat slot_children os) ≡ length os
  slots_count [] = refl
  slots_count (leaf p ∷ os) = omega (arith, slots_count os)
  slots_count (non_leaf y ∷ os) = omega (arith, slots_count os)

-- nodes of n slots each
module _ {X : Type 0} (slots : X → List (Slot X)) (n : ℕ) (whole : (x : X) → length (slots x) ≡ n) where
  -- every slot of the first i holds a port or a child
  pub slots_upto : (xs : List X) (i : ℕ) → i ≤ length xs → upto (leaf_ports slots) xs i + upto (children slots) xs i ≡ n * i
  slots_upto [] zero h = sym (mul-zero n)
  slots_upto [] (suc i) h = absurd (omega arith)
  slots_upto (x ∷ xs) zero h = sym (mul-zero n)
  slots_upto (x ∷ xs) (suc i) h = omega (arith, slots_count (slots x), whole x, slots_upto xs i (omega arith), mul-suc n i)

  -- and every slot of all
  pub ports_and_children : (xs : List X) → length (tree_ports slots xs) + length (flat (children slots) xs) ≡ length xs * n
  ports_and_children xs =
      omega (
        arith,
        upto_all (leaf_ports slots) xs,
        upto_all (children slots) xs,
        slots_upto xs (length xs) (omega arith),
        mul_comm n (length xs),
      )
