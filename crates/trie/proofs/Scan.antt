-- The plain scan of a set: what it finds, and what makes no difference to it. Assumes nothing.
use mathlib.Core.Path.{◌≡◌, refl, sym, ap, ◌∙◌}
use mathlib.Core.Bool.{Bool, true, false, beq, true≢false, false≢true}
use mathlib.Core.List.{[], ◌∷◌}
use Prim.Native.Nat.{ℕ, zero, suc, ◌<◌}
use native.Mathlib.Omega.{arith}
use lib.ListN.{length}
use Rattle.bits.specs.Bits.{Bits, begins}
use Rattle.bits.proofs.Bits.{beq_refl, beq_eq}
use Rattle.lists.proofs.Tests.{both}
use Rattle.trie.specs.Routes.{Routes, upd, side}
use Rattle.trie.specs.Scan.{or_else, scan}

pub or_pos : (p b : ℕ) → 0 < p → or_else p b ≡ p
or_pos zero b h = absurd (omega arith)
or_pos (suc p) b h = refl

pub or_assoc : (x y z : ℕ) → or_else (or_else x y) z ≡ or_else x (or_else y z)
or_assoc zero y z = refl
or_assoc (suc x) y z = refl

pub or_zero : (x : ℕ) → or_else x 0 ≡ x
or_zero zero = refl
or_zero (suc x) = refl

-- no route matches: the scan finds none
pub scan_none : (S : Routes) (a : Bits) → ((q : Bits) → begins q a ≡ true → S q ≡ 0) → scan S a ≡ 0
scan_none S [] h = h [] refl
scan_none S (b ∷ a) h =
    rw (scan_none (side b S) a (λ q m. h (b ∷ q) (rw (beq_refl b) m))) (h [] refl)

-- s matches, and no route that matches is longer: the scan finds s
pub scan_longest : (S : Routes) (s a : Bits) → 0 < S s → begins s a ≡ true
    → ((q : Bits) → begins q a ≡ true → length s < length q → S q ≡ 0) → scan S a ≡ S s
scan_longest S [] [] live m h = refl
scan_longest S [] (b ∷ a) live m h =
    rw (scan_none (side b S) a (λ q k. h (b ∷ q) (rw (beq_refl b) k) (omega arith)))
scan_longest S (c ∷ s) [] live m h = absurd (false≢true m)
scan_longest S (c ∷ s) (b ∷ a) live m h =
    let e : c ≡ b = beq_eq c b (both (beq c b) (begins s a) m).0 in
    let live' : 0 < side b S s = rw e at live in
    let ih : scan (side b S) a ≡ side b S s =
    scan_longest (side b S) s a live' (both (beq c b) (begins s a) m).1
    (λ q k l. h (b ∷ q) (rw (beq_refl b) k) (omega arith)) in
    ap (λ (x : ℕ). or_else x (S [])) ih ∙ or_pos (side b S s) (S []) live' ∙ ap (λ (x : Bool). S (x ∷ s)) (sym e)

-- a change of a route that does not match makes no difference
pub scan_other : (S : Routes) (s a : Bits) (p : ℕ) → begins s a ≡ false → scan (upd S s p) a ≡ scan S a
scan_other S [] a p m = absurd (true≢false m)
scan_other S (b ∷ s) [] p m = refl
scan_other S (false ∷ s) (false ∷ a) p m = rw (scan_other (side false S) s a p m)
scan_other S (false ∷ s) (true ∷ a) p m = refl
scan_other S (true ∷ s) (false ∷ a) p m = refl
scan_other S (true ∷ s) (true ∷ a) p m = rw (scan_other (side true S) s a p m)
