-- Laws of sets of routes: what a change leaves, and that changes of different prefixes commute. Assumes nothing.
use mathlib.Core.Path.{◌≡◌, refl, sym, ap, ◌∙◌, fun_ext}
use mathlib.Core.Logic.{◌⊎◌, inl, inr}
use mathlib.Core.Bool.{Bool, true, false, cond, true≢false}
use Prim.Native.Nat.{ℕ, zero, suc, ◌<◌}
use native.Mathlib.Omega.{arith}
use Rattle.bits.specs.Bits.{Bits, same}
use Rattle.bits.proofs.Bits.{same_refl, same_eq}
use Rattle.lists.proofs.Tests.{test_no}
use Rattle.trie.specs.Routes.{Routes, upd}

pub same_no : (s q : Bits) → (s ≡ q → ⊥) → same s q ≡ false
same_no s q ne = test_no (same s q) (λ t. ne (same_eq s q t))

pub same_sym : (s q : Bits) → same s q ≡ false → same q s ≡ false
same_sym s q e = same_no q s (λ h. true≢false (sym (same_refl s) ∙ ap (same s) (sym h) ∙ e))

pub upd_same : (S : Routes) (q : Bits) (p : ℕ) → upd S q p q ≡ p
upd_same S q p = rw (same_refl q)

pub upd_other : (S : Routes) (q x : Bits) (p : ℕ) → same x q ≡ false → upd S q p x ≡ S x
upd_other S q x p e = rw e

-- the last of two changes of one prefix counts
pub upd_again : (S : Routes) (q : Bits) (o p : ℕ) → upd (upd S q o) q p ≡ upd S q p
upd_again S q o p = fun_ext (λ x. go x (same x q))
  where
    go : (x : Bits) (b : Bool) → cond b p (cond b o (S x)) ≡ cond b p (S x)
    go x true = refl
    go x false = refl

-- a change that changes nothing
pub upd_none : (S : Routes) (q : Bits) (p : ℕ) → S q ≡ p → upd S q p ≡ S
upd_none S q p e = fun_ext (λ x. go x (same x q) refl)
  where
    go : (x : Bits) (b : Bool) → same x q ≡ b → cond b p (S x) ≡ S x
    go x true h = sym e ∙ ap S (sym (same_eq x q h))
    go x false h = refl

pub upd_swap : (S : Routes) (s q : Bits) (o p : ℕ) → same q s ≡ false → upd (upd S s o) q p ≡ upd (upd S q p) s o
upd_swap S s q o p ne = fun_ext (λ x. go x (same x q) (same x s) refl refl)
  where
    go : (x : Bits) (a b : Bool) → same x q ≡ a → same x s ≡ b → cond a p (cond b o (S x)) ≡ cond b o (cond a p (S x))
    go x true true e f = absurd (true≢false (sym f ∙ ap (λ z. same z s) (same_eq x q e) ∙ ne))
    go x true false e f = refl
    go x false b e f = refl

-- what was taken out and is put back
pub upd_back : (S : Routes) (s : Bits) (p : ℕ) → S s ≡ p → upd (upd S s 0) s p ≡ S
upd_back S s p e = upd_again S s 0 p ∙ upd_none S s p e

pub none_or_some : (n : ℕ) → (n ≡ 0) ⊎ (0 < n)
none_or_some zero = inl refl
none_or_some (suc n) = inr (omega arith)
