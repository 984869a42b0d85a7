-- The order of the trie's priority: `ahead` by length, then value, and `outranks`, which puts the place's own prefix first. Assumes nothing.
use mathlib.Core.Path.{◌≡◌, refl, sym, ap, ◌∙◌}
use mathlib.Core.Logic.{◌⊎◌, inl, inr, ⊎_elim}
use mathlib.Core.Bool.{Bool, true, false, ◌&&◌, true≢false, false≢true}
use mathlib.Core.List.{[], ◌∷◌}
use Prim.Native.Nat.{suc, ◌<◌, ◌≤◌}
use native.Mathlib.Omega.{arith}
use lib.Dec.{ltb, eqb}
use lib.ListN.{length}
use borrow.Author.Tests.{lt-ltb, le-ltb, eq-eqb, ltb-true, ltb-false, eqb-true}
use Rattle.bits.specs.Bits.{Bits, value}
use Rattle.bits.proofs.Bits.{bits_unique}
use Rattle.lists.proofs.Tests.{way, both, either, test_no}
use Rattle.trie.specs.Trie.{ahead, outranks}

-- the order as a statement, and its opposite
abbrev pub Ahead : Bits → Bits → Type 0
Ahead s q = (length q < length s) ⊎ ((length q ≡ length s) × (value s < value q))

abbrev pub Behind : Bits → Bits → Type 0
Behind s q = (length s < length q) ⊎ ((length q ≡ length s) × (value q ≤ value s))

pub ahead_yes : (s q : Bits) → Ahead s q → ahead s q ≡ true
ahead_yes s q (inl h) = rw (lt-ltb (length q) (length s) h)
ahead_yes s q (inr h) =
    let k : length s ≤ length q = omega arith in
    rw (le-ltb (length q) (length s) k, eq-eqb (length q) (length s) h.0, lt-ltb (value s) (value q) h.1)

pub ahead_is : (s q : Bits) → ahead s q ≡ true → Ahead s q
ahead_is s q t =
    ⊎_elim
    (λ (h : ltb (length q) (length s) ≡ true). inl (ltb-true (length q) (length s) h))
    (λ (h : (eqb (length q) (length s) && ltb (value s) (value q)) ≡ true).
    let b = both (eqb (length q) (length s)) (ltb (value s) (value q)) h in
    inr (eqb-true (length q) (length s) b.0, ltb-true (value s) (value q) b.1))
    (either (ltb (length q) (length s)) (eqb (length q) (length s) && ltb (value s) (value q)) t)

not_both : (s q : Bits) → Behind s q → Ahead s q → ⊥
not_both s q (inl a) (inl b) = omega arith
not_both s q (inl a) (inr b) = omega (arith, b.0)
not_both s q (inr a) (inl b) = omega (arith, a.0)
not_both s q (inr a) (inr b) = omega (arith, a.1, b.1)

pub ahead_no : (s q : Bits) → Behind s q → ahead s q ≡ false
ahead_no s q h = test_no (ahead s q) (λ t. not_both s q h (ahead_is s q t))

pub ahead_not : (s q : Bits) → ahead s q ≡ false → Behind s q
ahead_not s q e = go (way (ltb (length s) (length q))) (way (ltb (length q) (length s)))
  where
    no : Ahead s q → ⊥
    no h = true≢false (sym (ahead_yes s q h) ∙ e)

    go : (ltb (length s) (length q) ≡ true) ⊎ (ltb (length s) (length q) ≡ false)
        → (ltb (length q) (length s) ≡ true) ⊎ (ltb (length q) (length s) ≡ false) → Behind s q
    go (inl a) b = inl (ltb-true (length s) (length q) a)
    go (inr a) (inl b) = absurd (no (inl (ltb-true (length q) (length s) b)))
    go (inr a) (inr b) =
        let n : length q ≡ length s = omega (arith, ltb-false (length s) (length q) a, ltb-false (length q) (length s) b) in
        let m : (value s < value q → ⊥) = (λ h. no (inr (n, h))) in
        inr (n, omega arith)

pub ahead_irrefl : (s : Bits) → ahead s s ≡ false
ahead_irrefl s = ahead_no s s (inr (refl, omega arith))

-- what is not ahead of s is not ahead of a q that is
pub ahead_up : (x q s : Bits) → ahead x s ≡ false → ahead q s ≡ true → ahead x q ≡ false
ahead_up x q s e f = ahead_no x q (go (ahead_not x s e) (ahead_is q s f))
  where
    go : Behind x s → Ahead q s → Behind x q
    go (inl a) (inl b) = inl (omega arith)
    go (inl a) (inr b) = inl (omega arith)
    go (inr a) (inl b) = inl (omega arith)
    go (inr a) (inr b) = inr (omega arith)

-- nor is what is not ahead of a q that is not
pub ahead_trans_no : (x q s : Bits) → ahead x q ≡ false → ahead q s ≡ false → ahead x s ≡ false
ahead_trans_no x q s e f = ahead_no x s (go (ahead_not x q e) (ahead_not q s f))
  where
    go : Behind x q → Behind q s → Behind x s
    go (inl a) (inl b) = inl (omega arith)
    go (inl a) (inr b) = inl (omega arith)
    go (inr a) (inl b) = inl (omega arith)
    go (inr a) (inr b) = inr (omega arith)

-- a first bit in common makes no difference
pub ahead_cons : (b : Bool) (s q : Bits) → ahead s q ≡ false → ahead (b ∷ s) (b ∷ q) ≡ false
ahead_cons b s q e = ahead_no (b ∷ s) (b ∷ q) (go (ahead_not s q e))
  where
    go : Behind s q → Behind (b ∷ s) (b ∷ q)
    go (inl a) = inl (omega arith)
    go (inr a) = inr (ap suc a.0, rw a.0 (omega (arith, a.1)))

-- two of which neither is ahead are one
pub ahead_same : (s q : Bits) → ahead s q ≡ false → ahead q s ≡ false → s ≡ q
ahead_same s q e f = go (ahead_not s q e) (ahead_not q s f)
  where
    go : Behind s q → Behind q s → s ≡ q
    go (inl a) (inl b) = absurd (omega arith)
    go (inl a) (inr b) = absurd (omega arith)
    go (inr a) (inl b) = absurd (omega arith)
    go (inr a) (inr b) = bits_unique s q (sym a.0) (omega arith)

pub nil_behind : (b : Bool) (s : Bits) → ahead [] (b ∷ s) ≡ false
nil_behind b s = ahead_no [] (b ∷ s) (inl (omega arith))

pub outranks_irrefl : (s : Bits) → outranks s s ≡ false
outranks_irrefl [] = refl
outranks_irrefl (b ∷ s) = ahead_irrefl (b ∷ s)

pub outranks_same : (s q : Bits) → outranks s q ≡ false → outranks q s ≡ false → s ≡ q
outranks_same [] [] e f = refl
outranks_same [] (b ∷ q) e f = absurd (true≢false e)
outranks_same (b ∷ s) [] e f = absurd (true≢false f)
outranks_same (b ∷ s) (c ∷ q) e f = ahead_same (b ∷ s) (c ∷ q) e f

pub outranks_up : (x q s : Bits) → outranks x s ≡ false → outranks q s ≡ true → outranks x q ≡ false
outranks_up x q [] e f = absurd (false≢true f)
outranks_up x [] (b ∷ s) e f = refl
outranks_up [] (c ∷ q) (b ∷ s) e f = absurd (true≢false e)
outranks_up (d ∷ x) (c ∷ q) (b ∷ s) e f = ahead_up (d ∷ x) (c ∷ q) (b ∷ s) e f

-- a longer one is outranks any but the place's own
pub outranks_longer : (b : Bool) (s q : Bits) → length (b ∷ s) < length q → outranks q (b ∷ s) ≡ true
outranks_longer b s [] h = refl
outranks_longer b s (c ∷ q) h = ahead_yes (c ∷ q) (b ∷ s) (inl h)

-- what is behind is not outranks, unless it is the place's own
pub outranks_behind : (q s : Bits) → (q ≡ [] → ⊥) → ahead q s ≡ false → outranks q s ≡ false
outranks_behind q [] ne e = refl
outranks_behind [] (b ∷ s) ne e = absurd (ne refl)
outranks_behind (c ∷ q) (b ∷ s) ne e = e

-- the place's own goes no further down
pub outranks_not_nil : (q s : Bits) → outranks q s ≡ true → s ≡ [] → ⊥
outranks_not_nil q s e n = false≢true (rw n at e)

pub under_not_nil : (q s : Bits) → (q ≡ s → ⊥) → outranks q s ≡ false → q ≡ [] → ⊥
under_not_nil [] [] ne f n = ne refl
under_not_nil [] (b ∷ s) ne f n = true≢false f
under_not_nil (a ∷ q) s ne f n = omega (arith, ap length n)
