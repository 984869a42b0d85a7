-- What is changed outside the rows of a trie leaves it as it is, and what is changed on one side leaves the other. Assumes nothing.
use mathlib.Core.Path.{◌≡◌, refl, sym, ap, ap₂, ◌∙◌, subst, subst₂}
use mathlib.Core.Logic.{◌⊎◌, inl, inr, ⊎_elim}
use mathlib.Core.Bool.{Bool, true, false, not}
use mathlib.Core.List.{[], ◌∷◌, ◌++◌}
use Prim.Native.Nat.{ℕ, ◌+◌, ◌<◌, ◌≤◌}
use native.Mathlib.Omega.{arith}
use Rattle.bits.specs.Bits.{Bits}
use Rattle.trie.specs.Trie.{Trie, leaf, node}
use Rattle.routes.specs.Routes.{ValidRoute}
use Rattle.table_rules.specs.Rows.{Mem, child, route_of, row_bits}
use Rattle.table_rules.specs.Holds.{Names, Holds, hit, times}
use Rattle.table_rules.specs.declared.Row.{Row}
use Rattle.table_rules.proofs.Holds.{hit_same, times_child}

-- the rows of a trie are the same in both memories
abbrev pub Agree : Mem → Mem → ℕ → Trie → Type 0
Agree M M' r t = (i : ℕ) → 0 < times M r t i → M' i ≡ M i

module _ (M M' : Mem) where
  agree_root : (r : ℕ) (s : Bits) (p : ℕ) (c : Bool → Trie) → Agree M M' r (node s p c) → M' r ≡ M r
  agree_root r s p c h = h r (omega (arith, hit_same r))

  agree_child : (r : ℕ) (s : Bits) (p : ℕ) (c : Bool → Trie) (b : Bool) → Agree M M' r (node s p c) → Agree M M' (child (M r) b) (c b)
  agree_child r s p c b h i k = h i (omega (arith, times_child M r s p c b i))

  pub times_frame : (r : ℕ) (t : Trie) (i : ℕ) → Agree M M' r t → times M' r t i ≡ times M r t i
  times_frame r leaf i h = refl
  times_frame r (node s p c) i h =
      ap₂ (λ (x y : ℕ). hit r i + (x + y))
      (ap (λ (x : Row). times M' (child x false) (c false) i) (agree_root r s p c h)
      ∙ times_frame (child (M r) false) (c false) i (agree_child r s p c false h))
      (ap (λ (x : Row). times M' (child x true) (c true) i) (agree_root r s p c h)
      ∙ times_frame (child (M r) true) (c true) i (agree_child r s p c true h))

  pub holds_frame : (w : ℕ) (path : Bits) (r : ℕ) (t : Trie) → Agree M M' r t → Holds w M path r t → Holds w M' path r t
  holds_frame w path r leaf h k = tt
  holds_frame w path r (node s p c) h k =
      let e : M r ≡ M' r = sym (agree_root r s p c h) in
      record {
        valid = subst (λ (x : Row). ValidRoute w (route_of x)) e k.valid;
        bits = subst (λ (x : Row). row_bits w x ≡ path ++ s) e k.bits;
        port = subst (λ (x : Row). x.port ≡ p) e k.port;
        below = λ b.
            subst (λ (x : Row). Names (child x b) (c b) × Holds w M' (path ++ (b ∷ [])) (child x b) (c b)) e
            ((k.below b).0, holds_frame w (path ++ (b ∷ [])) (child (M r) b) (c b) (agree_child r s p c b h) (k.below b).1);
      }

-- both sides, the one in question first
pub times_sides : (M : Mem) (r : ℕ) (s : Bits) (p : ℕ) (c : Bool → Trie) (b : Bool) (i : ℕ)
    → times M r (node s p c) i ≡ hit r i + (times M (child (M r) b) (c b) i + times M (child (M r) (not b)) (c (not b)) i)
times_sides M r s p c false i = refl
times_sides M r s p c true i = omega arith

-- each row is reached at most once
abbrev pub Unique : Mem → ℕ → Trie → Type 0
Unique M r t = (i : ℕ) → times M r t i ≤ 1

-- a side is the one in question or the other
pub side_of : (d b : Bool) → (d ≡ b) ⊎ (d ≡ not b)
side_of false false = inl refl
side_of false true = inr refl
side_of true false = inr refl
side_of true true = inl refl

-- what row r has to be to hold a node with a new child c' on side b that holds t', the other side being as it was
pub record SideChanged (w : ℕ) (M M' : Mem) (path : Bits) (r : ℕ) (u : Bits) (o : ℕ) (c f : Bool → Trie) (b : Bool) (c' : ℕ) (t' : Trie) : Type 0 where
  pub valid : ValidRoute w (route_of (M' r))
  pub bits : row_bits w (M' r) ≡ path ++ u
  pub port : (M' r).port ≡ o
  pub own : child (M' r) b ≡ c'
  pub named : Names c' t'
  pub holds : Holds w M' (path ++ (b ∷ [])) c' t'
  pub own_is : f b ≡ t'
  pub other : child (M' r) (not b) ≡ child (M r) (not b)
  pub other_is : f (not b) ≡ c (not b)
  pub other_same : Agree M M' (child (M r) (not b)) (c (not b))

module _ (w : ℕ) (M M' : Mem) (path : Bits) (r : ℕ) (s u : Bits) (p o : ℕ) (c f : Bool → Trie) (b : Bool) (c' : ℕ) (t' : Trie)
    (h : Holds w M path r (node s p c)) (k : SideChanged w M M' path r u o c f b c' t') where
  abbrev Fine : Bool → Type 0
  Fine d = Names (child (M' r) d) (f d) × Holds w M' (path ++ (d ∷ [])) (child (M' r) d) (f d)

  own_fine : Fine b
  own_fine =
      let x : Names c' t' × Holds w M' (path ++ (b ∷ [])) c' t' = (k.named, k.holds) in
      subst₂ (λ (j : ℕ) (t : Trie). Names j t × Holds w M' (path ++ (b ∷ [])) j t) (sym k.own) (sym k.own_is) x

  other_fine : Fine (not b)
  other_fine =
      let j : ℕ = child (M r) (not b) in
      let x : Names j (c (not b)) × Holds w M' (path ++ (not b ∷ [])) j (c (not b)) =
      ((h.below (not b)).0, holds_frame M M' w (path ++ (not b ∷ [])) j (c (not b)) k.other_same (h.below (not b)).1) in
      subst₂ (λ (i : ℕ) (t : Trie). Names i t × Holds w M' (path ++ (not b ∷ [])) i t) (sym k.other) (sym k.other_is) x

  pub side_holds : Holds w M' path r (node u o f)
  side_holds = record {
    valid = k.valid;
    bits = k.bits;
    port = k.port;
    below = λ d. ⊎_elim (λ (e : d ≡ b). subst Fine (sym e) own_fine) (λ (e : d ≡ not b). subst Fine (sym e) other_fine) (side_of d b);
  }

  -- the rows reached: those of the new side in place of those of the old
  pub side_times : (i : ℕ) → times M' r (node u o f) i + times M (child (M r) b) (c b) i ≡ times M r (node s p c) i + times M' c' t' i
  side_times i =
      let x : times M' (child (M' r) b) (f b) i ≡ times M' c' t' i = ap₂ (λ (j : ℕ) (t : Trie). times M' j t i) k.own k.own_is in
      let y : times M' (child (M' r) (not b)) (f (not b)) i ≡ times M (child (M r) (not b)) (c (not b)) i =
      ap₂ (λ (j : ℕ) (t : Trie). times M' j t i) k.other k.other_is
      ∙ times_frame M M' (child (M r) (not b)) (c (not b)) i k.other_same in
      omega (arith, times_sides M' r u o f b i, times_sides M r s p c b i, x, y)

-- where rows are reached once, neither the root nor a row of the other side is reached through a side
module _ (M : Mem) (r : ℕ) (s : Bits) (p : ℕ) (c : Bool → Trie) (once : Unique M r (node s p c)) where
  pub unique_child : (b : Bool) → Unique M (child (M r) b) (c b)
  unique_child b i = omega (arith, times_child M r s p c b i, once i)

  pub root_not_below : (b : Bool) → times M (child (M r) b) (c b) r ≡ 0
  root_not_below b = omega (arith, hit_same r, times_child M r s p c b r, once r)

  pub below_not_root : (b : Bool) (i : ℕ) → 0 < times M (child (M r) b) (c b) i → i ≡ r → ⊥
  below_not_root b i k e =
      let z : times M (child (M r) b) (c b) i ≡ 0 = ap (times M (child (M r) b) (c b)) e ∙ root_not_below b in
      omega arith

  pub sides_apart : (b : Bool) (i : ℕ) → 0 < times M (child (M r) (not b)) (c (not b)) i → times M (child (M r) b) (c b) i ≡ 0
  sides_apart b i h = omega (arith, times_sides M r s p c b i, once i)
