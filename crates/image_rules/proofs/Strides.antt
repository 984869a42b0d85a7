-- What a caller reads off a lookup's answer. Assumes nothing.
use mathlib.Core.Path.{◌≡◌, refl}
use mathlib.Core.Bool.{true, false≢true}
use Prim.Native.Nat.{ℕ, zero, suc}
use native.Mathlib.Omega.{arith}
use borrow.Author.Tests.{ne_eqb}
use Rattle.image_rules.specs.Lookup.{is_stride, Strided}

-- 32 bits are whole strides
pub strided : (s : ℕ) → is_stride s ≡ true → Strided 32 s
strided zero t = absurd (false≢true t)
strided (suc zero) t = record { stride = t; some = omega arith; whole = refl }
strided (suc (suc zero)) t = record { stride = t; some = omega arith; whole = refl }
strided (suc (suc (suc zero))) t = absurd (false≢true t)
strided (suc (suc (suc (suc zero)))) t = record { stride = t; some = omega arith; whole = refl }
strided (suc (suc (suc (suc (suc k))))) t =
    let s = suc (suc (suc (suc (suc k)))) in
    absurd (false≢true (simp (ne_eqb s 1 (λ q. omega arith), ne_eqb s 2 (λ q. omega arith), ne_eqb s 4 (λ q. omega arith)) at t))
