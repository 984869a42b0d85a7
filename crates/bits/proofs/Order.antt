-- The order of prefixes by value, then by length, is strict and total; what begins later within a prefix is longer. Assumes nothing.
use mathlib.Core.Path.{◌≡◌, sym, ap, ◌∙◌}
use mathlib.Core.Logic.{◌⊎◌, inl, inr, ⊎_elim}
use mathlib.Core.Bool.{true, false, ◌&&◌}
use Prim.Native.Nat.{ℕ, ◌+◌, ◌-◌, ◌*◌, ◌%◌, ◌^◌, ◌<◌, ◌≤◌}
use native.Mathlib.Omega.{arith}
use native.Mathlib.Nat.{mul-mod_left, mul_assoc}
use lib.Dec.{eqb, ltb}
use lib.Pow.{pow-add}
use borrow.Author.Tests.{eq-eqb, eqb-true, lt-ltb, le-ltb, ltb-true, ltb-false}
use Rattle.bits.specs.Prefix.{span, head, Valid, matches, precedes}
use Rattle.bits.specs.Theorems.{PrecedesMeans, Ordered}
use Rattle.lists.proofs.Tests.{way, both, either, test_no}
use Rattle.bits.proofs.Prefix.{head_rest}

-- the order as a statement
abbrev pub Precedes : ℕ → ℕ → ℕ → ℕ → Type 0
Precedes v l v' l' = (v < v') ⊎ ((v ≡ v') × (l < l'))

pub precedes_yes : (v l v' l' : ℕ) → Precedes v l v' l' → precedes v l v' l' ≡ true
precedes_yes v l v' l' (inl h) = rw (lt-ltb v v' h)
precedes_yes v l v' l' (inr h) = rw (le-ltb v v' (omega (arith, h.0)), eq-eqb v v' h.0, lt-ltb l l' h.1)

pub precedes_is : (v l v' l' : ℕ) → precedes v l v' l' ≡ true → Precedes v l v' l'
precedes_is v l v' l' t =
    ⊎_elim
    (λ (h : ltb v v' ≡ true). inl (ltb-true v v' h))
    (λ (h : (eqb v v' && ltb l l') ≡ true). let b = both (eqb v v') (ltb l l') h in inr (eqb-true v v' b.0, ltb-true l l' b.1))
    (either (ltb v v') (eqb v v' && ltb l l') t)

pub precedes_means : PrecedesMeans
precedes_means v l v' l' = (precedes_is v l v' l', precedes_yes v l v' l')

pub precedes_trans : {v l v' l' v'' l'' : ℕ} → Precedes v l v' l' → Precedes v' l' v'' l'' → Precedes v l v'' l''
precedes_trans (inl x) (inl y) = inl (omega arith)
precedes_trans (inl x) (inr y) = inl (omega (arith, y.0))
precedes_trans (inr x) (inl y) = inl (omega (arith, x.0))
precedes_trans (inr x) (inr y) = inr (x.0 ∙ y.0, omega (arith, x.1, y.1))

pub precedes_irrefl : {v l : ℕ} → Precedes v l v l → ⊥
precedes_irrefl (inl x) = omega arith
precedes_irrefl (inr x) = omega (arith, x.1)

pub precedes_value_le : {v l v' l' : ℕ} → Precedes v l v' l' → v ≤ v'
precedes_value_le (inl x) = omega arith
precedes_value_le (inr x) = omega (arith, x.0)

pub ordered : Ordered
ordered = record {
  irreflexive = λ v l. test_no (precedes v l v l) (λ t. precedes_irrefl (precedes_is v l v l t));
  transitive = λ v l v' l' v'' l'' s t. precedes_yes v l v'' l'' (precedes_trans (precedes_is v l v' l' s) (precedes_is v' l' v'' l'' t));
  total = total;
}
  where
    total : (v l v' l' : ℕ) → (precedes v l v' l' ≡ true) ⊎ ((precedes v' l' v l ≡ true) ⊎ ((v ≡ v') × (l ≡ l')))
    total v l v' l' = by (way (ltb v v')) (way (ltb v' v)) (way (ltb l l')) (way (ltb l' l))
      where
        by : (ltb v v' ≡ true) ⊎ (ltb v v' ≡ false) → (ltb v' v ≡ true) ⊎ (ltb v' v ≡ false)
            → (ltb l l' ≡ true) ⊎ (ltb l l' ≡ false) → (ltb l' l ≡ true) ⊎ (ltb l' l ≡ false)
            → (precedes v l v' l' ≡ true) ⊎ ((precedes v' l' v l ≡ true) ⊎ ((v ≡ v') × (l ≡ l')))
        by (inl a) b c d = inl (precedes_yes v l v' l' (inl (ltb-true v v' a)))
        by (inr a) (inl b) c d = inr (inl (precedes_yes v' l' v l (inl (ltb-true v' v b))))
        by (inr a) (inr b) (inl c) d =
            inl (precedes_yes v l v' l' (inr (omega (arith, ltb-false v v' a, ltb-false v' v b), ltb-true l l' c)))
        by (inr a) (inr b) (inr c) (inl d) =
            inr (inl (precedes_yes v' l' v l (inr (omega (arith, ltb-false v v' a, ltb-false v' v b), ltb-true l' l d))))
        by (inr a) (inr b) (inr c) (inr d) =
            inr (inr (omega (arith, ltb-false v v' a, ltb-false v' v b), omega (arith, ltb-false l l' c, ltb-false l' l d)))

-- bits that are zero from a length on are zero from a greater one on
pub zeros_longer : (w v l m : ℕ) → l ≤ m → m ≤ w → v % span w l ≡ 0 → v % span w m ≡ 0
zeros_longer w v l m h k e =
    let x : w - l ≡ m - l + (w - m) = omega arith in
    let s : span w l ≡ 2 ^ (m - l) * span w m = ap (λ (i : ℕ). 2 ^ i) x ∙ pow-add 2 (m - l) (w - m) in
    let d : v ≡ head w l v * span w l = omega (arith, head_rest w l v, e) in
    ap (λ (y : ℕ). y % span w m) (d ∙ ap (λ (y : ℕ). head w l v * y) s ∙ sym (mul_assoc (head w l v) (2 ^ (m - l)) (span w m)))
    ∙ mul-mod_left (head w l v * 2 ^ (m - l)) (span w m)

-- of two valid prefixes, the one that comes later and begins within the other is the longer
pub later_longer : (w v l v' l' : ℕ) → Valid w v l → Valid w v' l' → Precedes v l v' l' → matches w v l v' ≡ true → l < l'
later_longer w v l v' l' ok ok' (inr p) m = p.1
later_longer w v l v' l' ok ok' (inl p) m =
    ⊎_elim
    (λ (t : ltb l l' ≡ true). ltb-true l l' t)
    (λ (t : ltb l l' ≡ false).
    let z : v' % span w l ≡ 0 = zeros_longer w v' l' l (ltb-false l l' t) ok.short ok'.zeros in
    let e : head w l v' * span w l ≡ head w l v * span w l = ap (λ (x : ℕ). x * span w l) (eqb-true (head w l v') (head w l v) m) in
    absurd (omega (arith, head_rest w l v, head_rest w l v', ok.zeros, z, e)))
    (way (ltb l l'))
