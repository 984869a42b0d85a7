-- One node built: its children stand after the nodes in use, and its words over its own. Assumes nothing.
use mathlib.Core.Path.{◌≡◌, refl, sym, ap, ap₂, ◌∙◌}
use mathlib.Core.List.{List, [], ◌∷◌, ◌++◌, append_assoc}
use Prim.Native.Nat.{ℕ, zero, suc, ◌+◌, ◌-◌, ◌*◌, ◌≤◌, ◌<◌}
use native.Mathlib.Omega.{arith}
use native.Mathlib.Nat.{add-zero}
use lib.ListN.{length, get_or, take, drop, length-append, length-drop}
use lib.Seq.{sets, sets-eq, take-append_seam, drop-append-add, take-suc, drop-cons, take-add, drop-drop, length-take-le}
use Rattle.lists.specs.Flat.{flat, upto}
use Rattle.image_rules.specs.Node.{node_size, node_words, offset, node_start}
use Rattle.image_rules.specs.Breadth.{Slot, bitmap, children, words, tree_words}
use Rattle.lists.proofs.Flat.{flat_append, upto_suc}
use Rattle.image_rules.proofs.Words.{length_words}
use Rattle.image_stretch.specs.declared.Stretch.{Stretch}
use Rattle.image_stretch.specs.Memory.{pending, build_node, used_after, memory}
use Rattle.image_stretch.proofs.SlotLoop.{length_pending}

-- stores at a seam
pub sets_seam : (a b vs : List ℕ) (n : ℕ) → length a ≡ n → length vs ≤ length b → sets (a ++ b) n vs ≡ a ++ (vs ++ drop (length vs) b)
sets_seam a b vs n e h =
    ap (λ (k : ℕ). sets (a ++ b) k vs) (sym e)
    ∙ sets-eq vs (a ++ b) (length a) (omega (arith, length-append a b, h))
    ∙ ap₂ (λ (x y : List ℕ). x ++ vs ++ y) (take-append_seam a b) (drop-append-add a b (length vs))
    ∙ append_assoc a vs (drop (length vs) b)

module _ {A B : Type 0} (f : A → List B) where
  flat_drop : (xs : List A) (i : ℕ) → drop (upto f xs i) (flat f xs) ≡ flat f (drop i xs)
  flat_drop [] zero = refl
  flat_drop [] (suc i) = refl
  flat_drop (x ∷ xs) zero = refl
  flat_drop (x ∷ xs) (suc i) = drop-append-add (f x) (flat f xs) (upto f xs i) ∙ flat_drop xs i

  pub upto_le : (xs : List A) (i : ℕ) → upto f xs i ≤ length (flat f xs)
  upto_le [] i = omega arith
  upto_le (x ∷ xs) zero = omega arith
  upto_le (x ∷ xs) (suc i) = omega (arith, upto_le xs i, length-append (f x) (flat f xs))

  pub flat_take : (xs : List A) (i : ℕ) → length (flat f (take i xs)) ≡ upto f xs i
  flat_take [] zero = refl
  flat_take [] (suc i) = refl
  flat_take (x ∷ xs) zero = refl
  flat_take (x ∷ xs) (suc i) = length-append (f x) (flat f (take i xs)) ∙ ap (λ (n : ℕ). length (f x) + n) (flat_take xs i)

module _ (slots : Stretch → List (Slot Stretch)) where
  words_append : (a c : ℕ) (xs ys : List Stretch)
      → words slots a c (xs ++ ys) ≡ words slots a c xs ++ words slots (a + length xs) (c + length (flat (children slots) xs)) ys
  words_append a c [] ys = ap₂ (λ (n m : ℕ). words slots n m ys) (sym (add-zero a)) (sym (add-zero c))
  words_append a c (x ∷ xs) ys =
      let ea : a + 1 + length xs ≡ a + suc (length xs) = omega arith in
      let ec : c + length (children slots x) + length (flat (children slots) xs) ≡ c + length (children slots x ++ flat (children slots) xs)
      = omega (arith, length-append (children slots x) (flat (children slots) xs)) in
      ap (λ (t : List ℕ). node_words (bitmap (slots x)) (offset c a) ++ t)
      (words_append (a + 1) (c + length (children slots x)) xs ys
      ∙ ap₂ (λ (n m : ℕ). words slots (a + 1) (c + length (children slots x)) xs ++ words slots n m ys) ea ec)

  module _ (all : List Stretch) (root : Stretch) (is : all ≡ root ∷ flat (children slots) all)
      (before : (i : ℕ) → i < length all → i < used_after slots all i) (i : ℕ) (h : i < length all) where
    abbrev pub x : Stretch
    x = get_or all i root

    abbrev pub u : ℕ
    u = used_after slots all i

    abbrev pub k : ℕ
    k = length (children slots x)

    next_used : used_after slots all (suc i) ≡ u + k
    next_used = omega (arith, upto_suc (children slots) all i root h)

    -- the children of node i stand in `all` from number u on
    children_there : take k (drop u all) ≡ children slots x
    children_there =
        let d : drop u all ≡ children slots x ++ flat (children slots) (drop (suc i) all)
        = ap (λ (n : ℕ). drop n all) s ∙ ap (drop (suc (upto (children slots) all i))) is
        ∙ flat_drop (children slots) all i ∙ ap (flat (children slots)) (drop-cons all i root h) in
        ap (take k) d ∙ take-append_seam (children slots x) (flat (children slots) (drop (suc i) all))
      where
        s : 1 + upto (children slots) all i ≡ suc (upto (children slots) all i)
        s = omega arith

    -- the nodes still to do after x
    abbrev pub rest : List Stretch
    rest = take (u - suc i) (drop (suc i) all)

    todo_is : take (u - i) (drop i all) ≡ x ∷ rest
    todo_is =
        let n : u - i ≡ suc (u - suc i) = omega (arith, before i h) in
        ap₂ (λ (m : ℕ) (l : List Stretch). take m l) n (drop-cons all i root h)

    todo_next : take (used_after slots all (suc i) - suc i) (drop (suc i) all) ≡ rest ++ children slots x
    todo_next =
        let b : i < u = before i h in
        let n : used_after slots all (suc i) - suc i ≡ u - suc i + k = omega (arith, next_used) in
        let m : suc i + (u - suc i) ≡ u = omega arith in
        ap (λ (z : ℕ). take z (drop (suc i) all)) n
        ∙ take-add (u - suc i) k (drop (suc i) all)
        ∙ ap (λ (l : List Stretch). rest ++ take k l) (drop-drop (u - suc i) (suc i) all ∙ ap (λ (z : ℕ). drop z all) m)
        ∙ ap (λ (l : List Stretch). rest ++ l) children_there

    -- x's own words
    abbrev pub own : List ℕ
    own = node_words (bitmap (slots x)) (offset (u + 1) (i + 1))

    abbrev pub done : List ℕ
    done = tree_words slots (take i all)

    pub length_done : length done ≡ i * node_size
    length_done = length_words slots 1 2 (take i all) ∙ ap (λ (n : ℕ). n * node_size) (length-take-le i all (omega arith))

    done_next : tree_words slots (take (suc i) all) ≡ done ++ own
    done_next =
        let ea : 1 + length (take i all) ≡ i + 1 = omega (arith, length-take-le i all (omega arith)) in
        let ec : 2 + length (flat (children slots) (take i all)) ≡ u + 1 = omega (arith, flat_take (children slots) all i) in
        ap (words slots 1 2) (take-suc all i root h)
        ∙ words_append 1 2 (take i all) (x ∷ [])
        ∙ ap₂ (λ (n m : ℕ). done ++ words slots n m (x ∷ [])) ea ec

    -- the words of node i hold x
    pub memory_is : (lent : List ℕ) → memory slots all i lent ≡ done ++ (pending x ++ (flat pending rest ++ drop (u * node_size) lent))
    memory_is lent =
        append_assoc done (flat pending (take (u - i) (drop i all))) (drop (u * node_size) lent)
        ∙ ap (λ (l : List Stretch). done ++ (flat pending l ++ drop (u * node_size) lent)) todo_is

    used_le : u ≤ length all
    used_le = omega (arith, ap length is, upto_le (children slots) all i)

    length_todo : length (take (u - i) (drop i all)) ≡ u - i
    length_todo = length-take-le (u - i) (drop i all) (omega (arith, length-drop i all, used_le))

    length_front : length (done ++ flat pending (take (u - i) (drop i all))) ≡ u * node_size
    length_front =
        let n : u - i ≡ suc (u - suc i) = omega (arith, before i h) in
        length-append done (flat pending (take (u - i) (drop i all)))
        ∙ omega (arith, length_done, length_pending (take (u - i) (drop i all)), length_todo, before i h)

    -- node i + 1 built, with u + 1 the first that is not in use
    pub queue_step : (lent : List ℕ) → used_after slots all (suc i) * node_size ≤ length lent
        → build_node slots (memory slots all i lent) (i + 1) (u + 1) x ≡ memory slots all (suc i) lent
    queue_step lent room =
        ap₂ (λ (m k : ℕ). sets (sets (memory slots all i lent) m (flat pending (children slots x))) k own) at_u at_i
        ∙ ap (λ (l : List ℕ). sets l (i * node_size) own) first
        ∙ sets_seam done (pending x ++ (flat pending rest ++ (flat pending (children slots x) ++ drop (used_after slots all (suc i) * node_size) lent))) own (i * node_size)
        length_done (omega arith)
        ∙ sym second
      where
        at_u : node_start (u + 1) ≡ u * node_size
        at_u = omega arith

        at_i : node_start (i + 1) ≡ i * node_size
        at_i = omega arith

        tail : List ℕ
        tail = drop (used_after slots all (suc i) * node_size) lent

        first : sets (memory slots all i lent) (u * node_size) (flat pending (children slots x))
            ≡ done ++ (pending x ++ (flat pending rest ++ (flat pending (children slots x) ++ tail)))
        first =
            let kl : length (flat pending (children slots x)) ≡ k * node_size = length_pending (children slots x) in
            let e : u * node_size + length (flat pending (children slots x)) ≡ used_after slots all (suc i) * node_size = omega (arith, kl, next_used) in
            sets_seam (done ++ flat pending (take (u - i) (drop i all))) (drop (u * node_size) lent) (flat pending (children slots x)) (u * node_size) length_front
            (omega (arith, length-drop (u * node_size) lent, kl, next_used, room))
            ∙ ap (λ (l : List ℕ). done ++ flat pending (take (u - i) (drop i all)) ++ (flat pending (children slots x) ++ l))
            (drop-drop (length (flat pending (children slots x))) (u * node_size) lent ∙ ap (λ (n : ℕ). drop n lent) e)
            ∙ append_assoc done (flat pending (take (u - i) (drop i all))) (flat pending (children slots x) ++ tail)
            ∙ ap (λ (l : List Stretch). done ++ (flat pending l ++ (flat pending (children slots x) ++ tail))) todo_is

        second : memory slots all (suc i) lent ≡ done ++ (own ++ (flat pending rest ++ (flat pending (children slots x) ++ tail)))
        second =
            ap₂ (λ (d : List ℕ) (l : List Stretch). d ++ flat pending l ++ tail) done_next todo_next
            ∙ append_assoc (done ++ own) (flat pending (rest ++ children slots x)) tail
            ∙ append_assoc done own (flat pending (rest ++ children slots x) ++ tail)
            ∙ ap (λ (l : List ℕ). done ++ (own ++ (l ++ tail))) (flat_append pending rest (children slots x))
            ∙ ap (λ (l : List ℕ). done ++ (own ++ l)) (append_assoc (flat pending rest) (flat pending (children slots x)) tail)
