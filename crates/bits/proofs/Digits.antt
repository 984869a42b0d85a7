-- The bits of a number in strides: those of one slot, and the rest. Assumes nothing.
use mathlib.Core.Path.{◌≡◌, sym, ap, ◌∙◌}
use mathlib.Core.List.{◌++◌}
use Prim.Native.Nat.{ℕ, suc, ◌+◌, ◌*◌, ◌/◌, ◌%◌, ◌^◌}
use native.Mathlib.Omega.{arith}
use native.Mathlib.Nat.{zero-add}
use lib.ListN.{take, drop}
use lib.Seq.{take_at, drop_at}
use Rattle.bits.specs.Bits.{Bits, bits}
use Rattle.bits.proofs.Bits.{length_bits, bits_add, bits_mod}

module _ (s k x : ℕ) where
  -- an address's bits on k levels more: those of its slot, then the rest
  pub bits_level : bits (s * suc k) x ≡ bits s (x / 2 ^ (s * k) % 2 ^ s) ++ bits (s * k) x
  bits_level =
      let e : s * suc k ≡ s + s * k = omega arith in
      let z : 2 ^ s ≡ 2 ^ (0 + s) = ap (λ (n : ℕ). 2 ^ n) (sym (zero-add s)) in
      ap (λ (n : ℕ). bits n x) e ∙ bits_add s (s * k) x
      ∙ ap (λ (q : Bits). q ++ bits (s * k) x)
      (sym (ap (λ (n : ℕ). bits s (x / 2 ^ (s * k) % n)) z ∙ bits_mod 0 s (x / 2 ^ (s * k))))

  pub take_level : take s (bits (s * suc k) x) ≡ bits s (x / 2 ^ (s * k) % 2 ^ s)
  take_level =
      ap (take s) bits_level
      ∙ take_at (bits s (x / 2 ^ (s * k) % 2 ^ s)) (bits (s * k) x) s (length_bits s (x / 2 ^ (s * k) % 2 ^ s))

  pub drop_level : drop s (bits (s * suc k) x) ≡ bits (s * k) x
  drop_level =
      ap (drop s) bits_level
      ∙ drop_at (bits s (x / 2 ^ (s * k) % 2 ^ s)) (bits (s * k) x) s (length_bits s (x / 2 ^ (s * k) % 2 ^ s))
