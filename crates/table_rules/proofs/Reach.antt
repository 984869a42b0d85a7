-- The rows that are reached from a row that holds a trie: each has one place, and they are the routes of the trie's set.
-- RULES, "Good order". Assumes nothing.
use mathlib.Core.Path.{◌≡◌, refl, sym, ap, ◌∙◌, subst}
use mathlib.Core.Logic.{◌⊎◌, inl, inr}
use mathlib.Core.Bool.{Bool, true, false, true≢false}
use mathlib.Core.List.{[], ◌∷◌, ◌++◌, append_assoc, append_cancel_left, head-eq_of_cons-eq}
use Prim.Native.Nat.{ℕ, ◌+◌, ◌<◌, ◌≤◌}
use native.Mathlib.Omega.{arith}
use lib.Dec.{eqb}
use borrow.Author.Tests.{eqb-true, eqb-false}
use Rattle.bits.specs.Bits.{Bits, same}
use Rattle.bits.proofs.Bits.{same_eq}
use Rattle.lists.proofs.Tests.{way}
use Rattle.trie.specs.Routes.{Routes, upd, side}
use Rattle.trie.specs.Trie.{Trie, leaf, node, IsTrie}
use Rattle.trie.proofs.Routes.{upd_same, upd_other, none_or_some}
use Rattle.trie.proofs.Remove.{own_out}
use Rattle.routes.specs.Routes.{ValidRoute}
use Rattle.table_rules.specs.Rows.{Mem, child, route_of, row_bits}
use Rattle.table_rules.specs.Holds.{Holds, hit, times}
use Rattle.table_rules.proofs.Holds.{hit_same, hit_other, Below, times_child, below_root, below_child, sum_hit}
use Rattle.lists.proofs.Sum.{sum, sum_none, sum_add}

-- what is left of S without s is not s, and is as it was
pub upd_live : (S : Routes) (s x : Bits) → 0 < upd S s 0 x → (x ≡ s → ⊥) × (S x ≡ upd S s 0 x)
upd_live S s x h = go (way (same x s))
  where
    go : (same x s ≡ true) ⊎ (same x s ≡ false) → (x ≡ s → ⊥) × (S x ≡ upd S s 0 x)
    go (inl t) = absurd (omega (arith, ap (upd S s 0) (same_eq x s t), upd_same S s 0))
    go (inr t) = ((λ e. omega (arith, ap (upd S s 0) e, upd_same S s 0)), sym (upd_other S s x 0 t))

module _ (w : ℕ) (M : Mem) where
  -- row i goes on from the path as a route of S
  pub record Reached (path : Bits) (S : Routes) (i : ℕ) : Type 0 where
    pub rest : Bits
    pub is : row_bits w (M i) ≡ path ++ rest
    pub valid : ValidRoute w (route_of (M i))
    pub port : S rest ≡ (M i).port

  -- a row is reached as the place's own, or through a child
  abbrev pub Way : ℕ → (Bool → Trie) → ℕ → Type 0
  Way r c i = (i ≡ r) ⊎ ((b : Bool) × (0 < times M (child (M r) b) (c b) i))

  pub way_reached : (r : ℕ) (s : Bits) (p : ℕ) (c : Bool → Trie) (i : ℕ) → 0 < times M r (node s p c) i → Way r c i
  way_reached r s p c i h =
      go (way (eqb i r)) (none_or_some (times M (child (M r) false) (c false) i)) (none_or_some (times M (child (M r) true) (c true) i))
    where
      go : (eqb i r ≡ true) ⊎ (eqb i r ≡ false)
          → (times M (child (M r) false) (c false) i ≡ 0) ⊎ (0 < times M (child (M r) false) (c false) i)
          → (times M (child (M r) true) (c true) i ≡ 0) ⊎ (0 < times M (child (M r) true) (c true) i)
          → Way r c i
      go (inl t) x y = inl (eqb-true i r t)
      go (inr t) (inr x) y = inr (false, x)
      go (inr t) (inl x) (inr y) = inr (true, y)
      go (inr t) (inl x) (inl y) = absurd (omega (arith, hit_other r i (eqb-false i r t)))

  -- one place up
  reached_up : (path : Bits) (S : Routes) (s : Bits) (b : Bool) (i : ℕ) → Reached (path ++ (b ∷ [])) (side b (upd S s 0)) i → Reached path S i
  reached_up path S s b i h = record {
    rest = b ∷ h.rest;
    is = h.is ∙ append_assoc path (b ∷ []) h.rest;
    valid = h.valid;
    port = (upd_live S s (b ∷ h.rest) (omega (arith, h.port, h.valid.some))).1 ∙ h.port;
  }

  abbrev Reaches : Trie → Type 0
  Reaches t = (path : Bits) (S : Routes) (r i : ℕ) → Holds w M path r t → IsTrie t S → 0 < times M r t i → Reached path S i

  reached_node : (s : Bits) (p : ℕ) (c : Bool → Trie) → ((b : Bool) → Reaches (c b)) → Reaches (node s p c)
  reached_node s p c ih path S r i h rule k = go (way_reached r s p c i k)
    where
      go : Way r c i → Reached path S i
      go (inl e) =
          subst (Reached path S) (sym e) (record { rest = s; is = h.bits; valid = h.valid; port = rule.own ∙ sym h.port })
      go (inr x) =
          reached_up path S s x.0 i
          (ih x.0 (path ++ (x.0 ∷ [])) (side x.0 (upd S s 0)) (child (M r) x.0) i (h.below x.0).1 (rule.rest x.0) x.1)

  pub reached : (t : Trie) → Reaches t
  reached leaf path S r i h rule k = absurd (omega arith)
  reached (node s p c) path S r i h rule k = reached_node s p c (λ b. reached (c b)) path S r i h rule k

  -- at a node
  module _ (path : Bits) (S : Routes) (r : ℕ) (s : Bits) (p : ℕ) (c : Bool → Trie) (h : Holds w M path r (node s p c))
      (rule : IsTrie (node s p c) S) where
    on_side_lem : (b : Bool) (i : ℕ) → 0 < times M (child (M r) b) (c b) i → Reached (path ++ (b ∷ [])) (side b (upd S s 0)) i
    on_side_lem b i k = reached (c b) (path ++ (b ∷ [])) (side b (upd S s 0)) (child (M r) b) i (h.below b).1 (rule.rest b) k

    -- no row of a child has the prefix of the node's own
    own_apart : (b : Bool) (i : ℕ) → 0 < times M (child (M r) b) (c b) i → row_bits w (M i) ≡ row_bits w (M r) → ⊥
    own_apart b i k e =
        let o = on_side_lem b i k in
        let q : b ∷ o.rest ≡ s = append_cancel_left path (b ∷ o.rest) s (sym (append_assoc path (b ∷ []) o.rest) ∙ sym o.is ∙ e ∙ h.bits) in
        (upd_live S s (b ∷ o.rest) (omega (arith, o.port, o.valid.some))).0 q

    -- nor has a row of one child that of a row of the other
    sides_apart : (b d : Bool) (i j : ℕ) → 0 < times M (child (M r) b) (c b) i → 0 < times M (child (M r) d) (c d) j
        → row_bits w (M i) ≡ row_bits w (M j) → b ≡ d
    sides_apart b d i j k l e =
        let o = on_side_lem b i k in
        let u = on_side_lem d j l in
        head-eq_of_cons-eq
        (append_cancel_left path (b ∷ o.rest) (d ∷ u.rest)
        (sym (append_assoc path (b ∷ []) o.rest) ∙ sym o.is ∙ e ∙ u.is ∙ append_assoc path (d ∷ []) u.rest))

  -- a row is reached at most once

  abbrev Once : Trie → Type 0
  Once t = (path : Bits) (S : Routes) (r i : ℕ) → Holds w M path r t → IsTrie t S → times M r t i ≤ 1

  once_node : (s : Bits) (p : ℕ) (c : Bool → Trie) → ((b : Bool) → Once (c b)) → Once (node s p c)
  once_node s p c ih path S r i h rule = go (way (eqb i r)) (none_or_some (on false)) (none_or_some (on true))
    where
      on : Bool → ℕ
      on b = times M (child (M r) b) (c b) i

      le : (b : Bool) → on b ≤ 1
      le b = ih b (path ++ (b ∷ [])) (side b (upd S s 0)) (child (M r) b) i (h.below b).1 (rule.rest b)

      go : (eqb i r ≡ true) ⊎ (eqb i r ≡ false) → (on false ≡ 0) ⊎ (0 < on false) → (on true ≡ 0) ⊎ (0 < on true)
          → times M r (node s p c) i ≤ 1
      go (inl t) (inl x) (inl y) = omega (arith, ap (hit r) (eqb-true i r t), hit_same r)
      go (inl t) (inr x) y = absurd (own_apart path S r s p c h rule false i x (ap (λ (j : ℕ). row_bits w (M j)) (eqb-true i r t)))
      go (inl t) (inl x) (inr y) = absurd (own_apart path S r s p c h rule true i y (ap (λ (j : ℕ). row_bits w (M j)) (eqb-true i r t)))
      go (inr t) (inl x) y = omega (arith, hit_other r i (eqb-false i r t), le true)
      go (inr t) (inr x) (inl y) = omega (arith, hit_other r i (eqb-false i r t), le false)
      go (inr t) (inr x) (inr y) = absurd (true≢false (sym (sides_apart path S r s p c h rule false true i i x y refl)))

  pub reached_once : (t : Trie) → Once t
  reached_once leaf path S r i h rule = omega arith
  reached_once (node s p c) path S r i h rule = once_node s p c (λ b. reached_once (c b)) path S r i h rule

  -- rows that are reached and have one prefix are one

  abbrev Same : Trie → Type 0
  Same t =
      (path : Bits) (S : Routes) (r i j : ℕ) → Holds w M path r t → IsTrie t S → 0 < times M r t i → 0 < times M r t j
      → row_bits w (M i) ≡ row_bits w (M j) → i ≡ j

  same_node : (s : Bits) (p : ℕ) (c : Bool → Trie) → ((b : Bool) → Same (c b)) → Same (node s p c)
  same_node s p c ih path S r i j h rule k l e = go (way_reached r s p c i k) (way_reached r s p c j l)
    where
      go : Way r c i → Way r c j → i ≡ j
      go (inl x) (inl y) = x ∙ sym y
      go (inl x) (inr y) =
          absurd (own_apart path S r s p c h rule y.0 j y.1 (sym e ∙ ap (λ (a : ℕ). row_bits w (M a)) x))
      go (inr x) (inl y) =
          absurd (own_apart path S r s p c h rule x.0 i x.1 (e ∙ ap (λ (a : ℕ). row_bits w (M a)) y))
      go (inr x) (inr y) =
          let d : x.0 ≡ y.0 = sides_apart path S r s p c h rule x.0 y.0 i j x.1 y.1 e in
          ih y.0 (path ++ (y.0 ∷ [])) (side y.0 (upd S s 0)) (child (M r) y.0) i j (h.below y.0).1 (rule.rest y.0)
          (subst (λ (b : Bool). 0 < times M (child (M r) b) (c b) i) d x.1) y.1 e

  pub reached_same : (t : Trie) → Same t
  reached_same leaf path S r i j h rule k l e = absurd (omega arith)
  reached_same (node s p c) path S r i j h rule k l e = same_node s p c (λ b. reached_same (c b)) path S r i j h rule k l e

  -- every route of the set is reached

  abbrev All : Trie → Type 0
  All t =
      (path : Bits) (S : Routes) (r : ℕ) (q : Bits) → Holds w M path r t → IsTrie t S → 0 < S q
      → (i : ℕ) × (0 < times M r t i) × (row_bits w (M i) ≡ path ++ q)

  all_node : (s : Bits) (p : ℕ) (c : Bool → Trie) → ((b : Bool) → All (c b)) → All (node s p c)
  all_node s p c ih path S r q h rule k = go (way (same q s))
    where
      on : (x : Bits) → 0 < upd S s 0 x → (i : ℕ) × (0 < times M r (node s p c) i) × (row_bits w (M i) ≡ path ++ x)
      on [] l = absurd (omega (arith, own_out S s rule.top))
      on (b ∷ x) l =
          let a = ih b (path ++ (b ∷ [])) (side b (upd S s 0)) (child (M r) b) x (h.below b).1 (rule.rest b) l in
          (a.0, omega (arith, a.1, times_child M r s p c b a.0), a.2 ∙ append_assoc path (b ∷ []) x)

      go : (same q s ≡ true) ⊎ (same q s ≡ false) → (i : ℕ) × (0 < times M r (node s p c) i) × (row_bits w (M i) ≡ path ++ q)
      go (inl t) = (r, omega (arith, hit_same r), h.bits ∙ ap (λ (x : Bits). path ++ x) (sym (same_eq q s t)))
      go (inr t) = on q (rw (upd_other S s q 0 t) k)

  pub reached_all : (t : Trie) → All t
  reached_all leaf path S r q h rule k = absurd (omega (arith, rule q))
  reached_all (node s p c) path S r q h rule k = all_node s p c (λ b. reached_all (c b)) path S r q h rule k

-- how many rows: as many as the trie has nodes

abbrev pub size : Trie → ℕ
size leaf = 0
size (node s p c) = size (c false) + size (c true) + 1

module _ (M : Mem) (n : ℕ) where
  pub sum_times : (t : Trie) (r : ℕ) → Below M r t n → sum (times M r t) n ≡ size t
  sum_times leaf r low = sum_none (times M r leaf) n (λ i l. refl)
  sum_times (node s p c) r low =
      sum_add (hit r) (λ i. times M (child (M r) false) (c false) i + times M (child (M r) true) (c true) i) n
      ∙ omega (
        arith,
        sum_hit r n (below_root M r s p c n low),
        sum_add (times M (child (M r) false) (c false)) (times M (child (M r) true) (c true)) n,
        sum_times (c false) (child (M r) false) (below_child M r s p c n false low),
        sum_times (c true) (child (M r) true) (below_child M r s p c n true low),
      )
