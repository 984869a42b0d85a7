-- A shifted 1 is a span; the ends of any prefix as the code computes them. Assumes nothing.
use mathlib.Core.Path.{◌≡◌, ◌∙◌}
use Prim.Native.Nat.{ℕ, ◌-◌, ◌*◌, ◌%◌, ◌^◌, ◌<◌}
use native.Mathlib.Nat.{one-mul}
use native.Mathlib.Omega.{arith}
use lib.Pow.{pow_pos, pow_mono, shl_exact}
use Rattle.bits.specs.Prefix.{span, first}
use Rattle.bits.proofs.Prefix.{head_rest}
use Rattle.prefix.specs.Prefixes.{Spanned}

pub span_shifted : (w len : ℕ) → w < 64 → Spanned w len ((1 * 2 ^ (w - len)) % 2 ^ 64)
span_shifted w len h = record { is = e; some = rw e (pow_pos (w - len)); most = rw e (pow_mono (omega arith)) }
  where
    e : (1 * 2 ^ (w - len)) % 2 ^ 64 ≡ span w len
    e = shl_exact {a = 1} 1 (w - len) 64 (omega arith) (omega arith) ∙ one-mul (2 ^ (w - len))

-- the first address is the value without the bits past the length
pub first_sub : (w v l : ℕ) → v - v % span w l ≡ first w v l
first_sub w v l = omega (arith, head_rest w l v)
