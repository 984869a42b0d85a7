-- What rows that hold a trie say: of each row, of its children, and of the rows that are reached. Assumes nothing.
use mathlib.Core.Path.{◌≡◌, refl, ap, ◌∙◌}
use mathlib.Core.Logic.{◌⊎◌, inl, inr, ⊎_elim}
use mathlib.Core.Bool.{Bool, true, false, cond}
use mathlib.Core.List.{[], ◌∷◌, ◌++◌}
use Prim.Native.Nat.{ℕ, zero, suc, ◌+◌, ◌<◌, ◌≤◌}
use native.Mathlib.Omega.{arith}
use lib.Dec.{eqb, ltb}
use lib.ListN.{length, length-append}
use borrow.Author.Tests.{eq-eqb, ne_eqb, ltb-true, eqb-true, eqb-false}
use Rattle.bits.specs.Bits.{Bits}
use Rattle.lists.proofs.Tests.{way}
use Rattle.trie.specs.Trie.{Trie, leaf, node}
use Rattle.table_rules.specs.Rows.{Mem, child}
use Rattle.table_rules.specs.Holds.{Names, Holds, hit, times}
use Rattle.table_rules.proofs.Paths.{At, at_len}
use Rattle.lists.proofs.Sum.{sum, sum_none}

pub hit_same : (r : ℕ) → hit r r ≡ 1
hit_same r = rw (eq-eqb r r refl)

pub hit_other : (r i : ℕ) → (i ≡ r → ⊥) → hit r i ≡ 0
hit_other r i ne = rw (ne_eqb i r ne)

-- every row that is reached is below n
abbrev pub Below : Mem → ℕ → Trie → ℕ → Type 0
Below M r t n = (i : ℕ) → 0 < times M r t i → i < n

pub row_at : (w : ℕ) (M : Mem) (path : Bits) (r : ℕ) (s : Bits) (p : ℕ) (c : Bool → Trie) → Holds w M path r (node s p c)
    → At w path (M r).value (M r).len s
row_at w M path r s p c h = record { valid = h.valid.prefix; is = h.bits }

-- a row is reached at least as often as through one child
pub times_child : (M : Mem) (r : ℕ) (s : Bits) (p : ℕ) (c : Bool → Trie) (b : Bool) (i : ℕ)
    → hit r i + times M (child (M r) b) (c b) i ≤ times M r (node s p c) i
times_child M r s p c false i = omega arith
times_child M r s p c true i = omega arith

pub below_child : (M : Mem) (r : ℕ) (s : Bits) (p : ℕ) (c : Bool → Trie) (n : ℕ) (b : Bool) → Below M r (node s p c) n
    → Below M (child (M r) b) (c b) n
below_child M r s p c n b low i h = low i (omega (arith, times_child M r s p c b i))

pub below_root : (M : Mem) (r : ℕ) (s : Bits) (p : ℕ) (c : Bool → Trie) (n : ℕ) → Below M r (node s p c) n → r < n
below_root M r s p c n low = low r (omega (arith, hit_same r))

named_lt : (M : Mem) (c : ℕ) (t : Trie) (n : ℕ) → 0 < n → Names c t → Below M c t n → c < n
named_lt M c leaf n pos names low = omega arith
named_lt M c (node s p k) n pos names low = below_root M c s p k n low

pub child_lt : (w : ℕ) (M : Mem) (path : Bits) (r : ℕ) (s : Bits) (p : ℕ) (c : Bool → Trie) (n : ℕ) → Holds w M path r (node s p c)
    → Below M r (node s p c) n → (b : Bool) → child (M r) b < n
child_lt w M path r s p c n h low b =
    named_lt M (child (M r) b) (c b) n (omega (arith, below_root M r s p c n low)) (h.below b).0 (below_child M r s p c n b low)

-- where the rows below n are each reached once, no other is reached
pub below_once : (M : Mem) (t : Trie) (n : ℕ) → ((i : ℕ) → times M 0 t i ≡ cond (ltb i n) 1 0) → Below M 0 t n
below_once M t n once i h =
    ⊎_elim
    (λ (e : ltb i n ≡ true). ltb-true i n e)
    (λ (e : ltb i n ≡ false). absurd (omega (arith, once i ∙ ap (λ (b : Bool). cond b 1 0) e)))
    (way (ltb i n))

-- at the full width there is no room for a node below
pub too_deep : (w : ℕ) (M : Mem) (path : Bits) (r : ℕ) (b : Bool) (t : Trie) → length path + 0 ≡ w → Holds w M (path ++ (b ∷ [])) r t → t ≡ leaf
too_deep w M path r b leaf deep h = refl
too_deep w M path r b (node s p c) deep h =
    absurd (omega (
      arith,
      at_len w (path ++ (b ∷ [])) (M r).value (M r).len s (row_at w M (path ++ (b ∷ [])) r s p c h),
      length-append path (b ∷ []),
      h.valid.prefix.short,
    ))

-- one row is hit once
pub sum_hit : (r n : ℕ) → r < n → sum (hit r) n ≡ 1
sum_hit r zero h = absurd (omega arith)
sum_hit r (suc n) h = go (way (eqb r n)) (sum_hit r n)
  where
    go : (eqb r n ≡ true) ⊎ (eqb r n ≡ false) → (r < n → sum (hit r) n ≡ 1) → sum (hit r) n + hit r n ≡ 1
    go (inl t) ih =
        let e : r ≡ n = eqb-true r n t in
        omega (
          arith,
          sum_none (hit r) n (λ i l. hit_other r i (λ z. omega arith)),
          ap (hit r) e,
          hit_same r,
        )
    go (inr t) ih = let ne : (r ≡ n → ⊥) = eqb-false r n t in omega (arith, ih (omega arith), hit_other r n (λ z. omega arith))
