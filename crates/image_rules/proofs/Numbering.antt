-- Breadth first: after the first level stand the children of all nodes, in the order of the nodes. Assumes nothing.
use mathlib.Core.Path.{◌≡◌, refl, sym, ap, ◌∙◌}
use mathlib.Core.Logic.{⊎_elim}
use mathlib.Core.List.{List, [], ◌∷◌, ◌++◌}
use Prim.Native.Nat.{ℕ, zero, suc, ◌+◌, ◌-◌, ◌≤◌, ◌<◌}
use native.Mathlib.Omega.{arith}
use lib.ListN.{length, length-append}
use Rattle.lists.specs.Flat.{flat, upto}
use Rattle.image_rules.specs.Breadth.{Slot, leaf, non_leaf, slot_children, children, levels}
use Rattle.lists.proofs.Flat.{flat_append, upto_append, All, all_append}
use Rattle.lists.proofs.Tests.{lt_or_le}

-- P k y of the node in a slot that has k levels below it
abbrev pub Below : {X : Type 0} → (ℕ → X → Type 0) → ℕ → Slot X → Type 0
Below P k (leaf p) = Unit {0}
Below P k (non_leaf y) = P k y

-- P k x says that the tree below x has at most k levels
module _ {X : Type 0} (slots : X → List (Slot X)) (P : ℕ → X → Type 0)
    (none : (x : X) → P zero x → ⊥) (below : (k : ℕ) (x : X) → P (suc k) x → All (Below P k) (slots x)) where
  children_all : (k : ℕ) (os : List (Slot X)) → All (Below P k) os → All (P k) (flat slot_children os)
  children_all k [] h = tt
  children_all k (leaf p ∷ os) h = children_all k os h.1
  children_all k (non_leaf y ∷ os) h = (h.0, children_all k os h.1)

  pub level_all : (k : ℕ) (xs : List X) → All (P (suc k)) xs → All (P k) (flat (children slots) xs)
  level_all k [] h = tt
  level_all k (x ∷ xs) h =
      all_append (P k) (children slots x) (flat (children slots) xs)
      (children_all k (slots x) (below k x h.0)) (level_all k xs h.1)

  -- the law that carries the numbering
  pub levels_is : (k : ℕ) (xs : List X) → All (P k) xs → levels slots k xs ≡ xs ++ flat (children slots) (levels slots k xs)
  levels_is zero [] h = refl
  levels_is zero (x ∷ xs) h = absurd (none x h.0)
  levels_is (suc k) xs h =
      ap (λ (l : List X). xs ++ l)
      (levels_is k (flat (children slots) xs) (level_all k xs h)
      ∙ sym (flat_append (children slots) xs (levels slots k (flat (children slots) xs))))

module _ {X : Type 0} (slots : X → List (Slot X)) where
  first_child_more : (xs rest : List X) (i : ℕ) → i < length (xs ++ rest)
      → ((j : ℕ) → j < length rest → j < length (flat (children slots) xs) + upto (children slots) rest j)
      → i < length xs + upto (children slots) (xs ++ rest) i
  first_child_more xs rest i h ih = ⊎_elim near far (lt_or_le i (length xs))
    where
      near : i < length xs → i < length xs + upto (children slots) (xs ++ rest) i
      near l = omega arith

      far : length xs ≤ i → i < length xs + upto (children slots) (xs ++ rest) i
      far g =
          let e : length xs + (i - length xs) ≡ i = omega arith in
          let u = rw e at (upto_append (children slots) xs rest (i - length xs)) in
          omega (arith, ih (i - length xs) (omega (arith, length-append xs rest, h)), u)

  -- a node stands before its first child
  pub first_child_lt : (k : ℕ) (xs : List X) (i : ℕ) → i < length (levels slots k xs)
      → i < length xs + upto (children slots) (levels slots k xs) i
  first_child_lt zero xs i h = absurd (omega arith)
  first_child_lt (suc k) xs i h =
      first_child_more xs (levels slots k (flat (children slots) xs)) i h
      (λ j l. first_child_lt k (flat (children slots) xs) j l)
