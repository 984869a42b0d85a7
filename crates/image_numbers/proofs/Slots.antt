-- A stride's bounds, and its slots. Assumes nothing.
use Rattle.std.proofs.Common.{◌≡◌, ℕ, zero, suc, ◌^◌, ◌<◌, ◌≤◌, true, ◌∙◌, arith, pow_pos, ne_eqb}
use mathlib.Core.Bool.{false≢true}
use Rattle.image_rules.specs.Lookup.{is_stride}
use Rattle.image_numbers.specs.Slots.{slots_of}
use Rattle.image_numbers.specs.Needs.{Stride}

-- a stride is 1, 2 or 4
pub stride_bounds : (s : ℕ) → is_stride s ≡ true → (0 < s) × (s ≤ 4)
stride_bounds zero t = absurd (false≢true t)
stride_bounds (suc zero) t = (omega arith, omega arith)
stride_bounds (suc (suc zero)) t = (omega arith, omega arith)
stride_bounds (suc (suc (suc zero))) t = absurd (false≢true t)
stride_bounds (suc (suc (suc (suc zero)))) t = (omega arith, omega arith)
stride_bounds (suc (suc (suc (suc (suc k))))) t =
    let s = suc (suc (suc (suc (suc k)))) in
    absurd (false≢true (simp (ne_eqb s 1 (λ q. omega arith), ne_eqb s 2 (λ q. omega arith), ne_eqb s 4 (λ q. omega arith)) at t))

pub stride_of_lem : (s : ℕ) → is_stride s ≡ true → Stride s
stride_of_lem s t = record { positive = (stride_bounds s t).0; at_most4 = (stride_bounds s t).1; listed = t }

pub slots_is : (s : ℕ) → is_stride s ≡ true → slots_of s ≡ 2 ^ s
slots_is s t = rw t

-- as the code has them
pub slots_found : {s n : ℕ} → n ≡ slots_of s → Stride s → n ≡ 2 ^ s
slots_found {s} e t = e ∙ slots_is s t.listed

pub slots_pos : {s n : ℕ} → n ≡ slots_of s → Stride s → 0 < n
slots_pos {s} e t = rw (slots_found e t) (pow_pos s)
