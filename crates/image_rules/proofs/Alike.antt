-- Two trees whose slots are alike have the same words and the same ports: what a builder that knows its nodes by something else than
-- their bits has to show is one slot at a time. Assumes nothing.
use mathlib.Core.Path.{◌≡◌, refl, ap, ap₂, ◌∙◌}
use mathlib.Core.List.{List, [], ◌∷◌, ◌++◌}
use Prim.Native.Nat.{ℕ, zero, suc, ◌+◌, ◌*◌, ◌^◌}
use lib.ListN.{length}
use Rattle.lists.specs.Flat.{flat}
use Rattle.image_rules.specs.Node.{node_words, offset}
use Rattle.image_rules.specs.Breadth.{Slot, leaf, non_leaf, slot_ports, slot_children, leaf_bit, bitmap, children, levels, words, tree_ports}

-- element by element
module _ {A B : Type 0} (R : A → B → Type 0) where
  abbrev pub Each : List A → List B → Type 0
  Each [] [] = Unit {0}
  Each [] (y ∷ ys) = ⊥
  Each (x ∷ xs) [] = ⊥
  Each (x ∷ xs) (y ∷ ys) = R x y × Each xs ys

  pub each_append : (xs xs' : List A) (ys ys' : List B) → Each xs ys → Each xs' ys' → Each (xs ++ xs') (ys ++ ys')
  each_append [] xs' [] ys' h k = k
  each_append [] xs' (y ∷ ys) ys' h k = absurd h
  each_append (x ∷ xs) xs' [] ys' h k = absurd h
  each_append (x ∷ xs) xs' (y ∷ ys) ys' h k = (h.0, each_append xs xs' ys ys' h.1 k)

  pub length_each : (xs : List A) (ys : List B) → Each xs ys → length xs ≡ length ys
  length_each [] [] h = refl
  length_each [] (y ∷ ys) h = absurd h
  length_each (x ∷ xs) [] h = absurd h
  length_each (x ∷ xs) (y ∷ ys) h = ap suc (length_each xs ys h.1)

-- both are leaves with one port, or non-leaves whose nodes are alike
abbrev pub Alike : {X Y : Type 0} → (X → Y → Type 0) → Slot X → Slot Y → Type 0
Alike R (leaf p) (leaf q) = p ≡ q
Alike R (leaf p) (non_leaf y) = ⊥
Alike R (non_leaf x) (leaf q) = ⊥
Alike R (non_leaf x) (non_leaf y) = R x y

module _ {X Y : Type 0} (R : X → Y → Type 0) where
  child_alike : (o : Slot X) (u : Slot Y) → Alike R o u → Each R (slot_children o) (slot_children u)
  child_alike (leaf p) (leaf q) h = tt
  child_alike (leaf p) (non_leaf y) h = absurd h
  child_alike (non_leaf x) (leaf q) h = absurd h
  child_alike (non_leaf x) (non_leaf y) h = (h, tt)

  port_alike : (o : Slot X) (u : Slot Y) → Alike R o u → slot_ports o ≡ slot_ports u
  port_alike (leaf p) (leaf q) h = ap (λ (n : ℕ). n ∷ []) h
  port_alike (leaf p) (non_leaf y) h = absurd h
  port_alike (non_leaf x) (leaf q) h = absurd h
  port_alike (non_leaf x) (non_leaf y) h = refl

  leaf_bit_alike : (o : Slot X) (u : Slot Y) → Alike R o u → leaf_bit o ≡ leaf_bit u
  leaf_bit_alike (leaf p) (leaf q) h = refl
  leaf_bit_alike (leaf p) (non_leaf y) h = absurd h
  leaf_bit_alike (non_leaf x) (leaf q) h = absurd h
  leaf_bit_alike (non_leaf x) (non_leaf y) h = refl

  children_alike : (os : List (Slot X)) (us : List (Slot Y)) → Each (Alike R) os us → Each R (flat slot_children os) (flat slot_children us)
  children_alike [] [] h = tt
  children_alike [] (u ∷ us) h = absurd h
  children_alike (o ∷ os) [] h = absurd h
  children_alike (o ∷ os) (u ∷ us) h =
      each_append R (slot_children o) (flat slot_children os) (slot_children u) (flat slot_children us) (child_alike o u h.0) (children_alike os us h.1)

  ports_alike : (os : List (Slot X)) (us : List (Slot Y)) → Each (Alike R) os us → flat slot_ports os ≡ flat slot_ports us
  ports_alike [] [] h = refl
  ports_alike [] (u ∷ us) h = absurd h
  ports_alike (o ∷ os) [] h = absurd h
  ports_alike (o ∷ os) (u ∷ us) h = ap₂ (λ (k l : List ℕ). k ++ l) (port_alike o u h.0) (ports_alike os us h.1)

  bitmap_alike : (os : List (Slot X)) (us : List (Slot Y)) → Each (Alike R) os us → bitmap os ≡ bitmap us
  bitmap_alike [] [] h = refl
  bitmap_alike [] (u ∷ us) h = absurd h
  bitmap_alike (o ∷ os) [] h = absurd h
  bitmap_alike (o ∷ os) (u ∷ us) h =
      ap₂ (λ (b n : ℕ). b * 2 ^ n + bitmap os) (leaf_bit_alike o u h.0) (length_each (Alike R) os us h.1)
      ∙ ap (λ (m : ℕ). leaf_bit u * 2 ^ length us + m) (bitmap_alike os us h.1)

  module _ (sx : X → List (Slot X)) (sy : Y → List (Slot Y)) (alike : (x : X) (y : Y) → R x y → Each (Alike R) (sx x) (sy y)) where
    level_alike : (xs : List X) (ys : List Y) → Each R xs ys → Each R (flat (children sx) xs) (flat (children sy) ys)
    level_alike [] [] h = tt
    level_alike [] (y ∷ ys) h = absurd h
    level_alike (x ∷ xs) [] h = absurd h
    level_alike (x ∷ xs) (y ∷ ys) h =
        each_append R (children sx x) (flat (children sx) xs) (children sy y) (flat (children sy) ys)
        (children_alike (sx x) (sy y) (alike x y h.0)) (level_alike xs ys h.1)

    pub levels_alike : (k : ℕ) (xs : List X) (ys : List Y) → Each R xs ys → Each R (levels sx k xs) (levels sy k ys)
    levels_alike zero xs ys h = tt
    levels_alike (suc k) xs ys h =
        each_append R xs (levels sx k (flat (children sx) xs)) ys (levels sy k (flat (children sy) ys)) h
        (levels_alike k (flat (children sx) xs) (flat (children sy) ys) (level_alike xs ys h))

    pub tree_ports_alike : (xs : List X) (ys : List Y) → Each R xs ys → tree_ports sx xs ≡ tree_ports sy ys
    tree_ports_alike [] [] h = refl
    tree_ports_alike [] (y ∷ ys) h = absurd h
    tree_ports_alike (x ∷ xs) [] h = absurd h
    tree_ports_alike (x ∷ xs) (y ∷ ys) h =
        ap₂ (λ (k l : List ℕ). k ++ l) (ports_alike (sx x) (sy y) (alike x y h.0)) (tree_ports_alike xs ys h.1)

    pub words_alike : (own next : ℕ) (xs : List X) (ys : List Y) → Each R xs ys → words sx own next xs ≡ words sy own next ys
    words_alike own next [] [] h = refl
    words_alike own next [] (y ∷ ys) h = absurd h
    words_alike own next (x ∷ xs) [] h = absurd h
    words_alike own next (x ∷ xs) (y ∷ ys) h =
        let a = alike x y h.0 in
        let c : length (children sx x) ≡ length (children sy y) =
        length_each R (children sx x) (children sy y) (children_alike (sx x) (sy y) a) in
        ap₂ (λ (b m : ℕ). node_words b (offset next own) ++ words sx (own + 1) (next + m) xs) (bitmap_alike (sx x) (sy y) a) c
        ∙ ap (λ (ws : List ℕ). node_words (bitmap (sy y)) (offset next own) ++ ws)
        (words_alike (own + 1) (next + length (children sy y)) xs ys h.1)
