-- Laws of the ones before a slot, over the number n of slots. Assumes nothing.
use mathlib.Core.Path.{◌≡◌, refl, sym, ap, ◌∙◌}
use mathlib.Core.Logic.{⊎_elim}
use mathlib.Core.Bool.{true, false}
use Prim.Native.Nat.{ℕ, zero, suc, ◌+◌, ◌-◌, ◌*◌, ◌/◌, ◌%◌, ◌^◌, ◌≤◌, ◌<◌}
use native.Mathlib.Nat.{div-one, mul_assoc, mul-add-div_right}
use native.Mathlib.Numerals.{add-one}
use native.Mathlib.Omega.{arith}
use lib.Arith.{digits_div}
use lib.Count.{ones, ones-le, ones_step, ones_cat}
use lib.Dec.{eqb}
use lib.Pow.{shr_lt, shr-shr, pow_pos, pow-add}
use Rattle.bits.specs.Bitmap.{before, slot_bit, ones_before, zeros_before, slots_with}
use Rattle.bits.specs.Bits.{bit}
use Rattle.bits.specs.Theorems.{OnesBeforeCounts, ZerosBeforeCounts}
use Rattle.bits.proofs.Bits.{bit_odd}
use borrow.Author.Tests.{eqb-true, eqb-false, eq-eqb, ne_eqb}
use Rattle.lists.proofs.Tests.{way}

-- no more ones before slot j than slots
pub ones_before_le : (n bitmap j : ℕ) → j ≤ n → bitmap < 2 ^ n → ones_before n bitmap j ≤ j
ones_before_le n bitmap j h p =
    let e : j + (n - j) ≡ n = omega arith in ones-le j (before n bitmap j) (shr_lt j (n - j) (rw e p))

-- every slot before j is a one or a zero
pub ones_zeros_before : (n bitmap j : ℕ) → j ≤ n → bitmap < 2 ^ n → ones_before n bitmap j + zeros_before n bitmap j ≡ j
ones_zeros_before n bitmap j h p = omega (arith, ones_before_le n bitmap j h p)

-- one slot more counts that slot's own bit
pub ones_before_suc : (n bitmap j : ℕ) → j < n → ones_before n bitmap (j + 1) ≡ slot_bit n bitmap j + ones_before n bitmap j
ones_before_suc n bitmap j h =
    let e : n - (j + 1) ≡ n - 1 - j = omega arith in
    let f : n - 1 - j + 1 ≡ n - j = omega arith in
    ap (λ (k : ℕ). ones (bitmap / 2 ^ k)) e ∙ ones_step (bitmap / 2 ^ (n - 1 - j))
    ∙ ap (λ (x : ℕ). slot_bit n bitmap j + ones x) (shr-shr bitmap (n - 1 - j) 1 ∙ ap (λ (k : ℕ). bitmap / 2 ^ k) f)

-- all slots
pub ones_before_all : (n bitmap : ℕ) → ones_before n bitmap n ≡ ones bitmap
ones_before_all n bitmap = let e : n - n ≡ 0 = omega arith in rw (e, div-one)

-- a bit put in as a new last slot changes no count before it
pub ones_before_push : (n bitmap bit j : ℕ) → bit < 2 → j ≤ n → ones_before (n + 1) (bitmap * 2 + bit) j ≡ ones_before n bitmap j
ones_before_push n bitmap bit j h l =
    let e : n + 1 - j ≡ 1 + (n - j) = omega arith in
    ap (λ (k : ℕ). ones ((bitmap * 2 + bit) / 2 ^ k)) e
    ∙ ap ones (sym (shr-shr (bitmap * 2 + bit) 1 (n - j)) ∙ ap (λ (x : ℕ). x / 2 ^ (n - j)) (digits_div bitmap {m = 2} h))

-- a number put above m lower bits, cut j bits below its own
pub ones_above : (c v m j : ℕ) → j ≤ m → v < 2 ^ m → ones ((c * 2 ^ m + v) / 2 ^ (m - j)) ≡ ones c + ones (v / 2 ^ (m - j))
ones_above c v m j h l =
    let e : j + (m - j) ≡ m = omega arith in
    let p : 2 ^ m ≡ 2 ^ j * 2 ^ (m - j) = ap (λ (k : ℕ). 2 ^ k) (sym e) ∙ pow-add 2 j (m - j) in
    let q : c * 2 ^ m ≡ c * 2 ^ j * 2 ^ (m - j) = ap (λ (x : ℕ). c * x) p ∙ sym (mul_assoc c (2 ^ j) (2 ^ (m - j))) in
    ap (λ (x : ℕ). ones ((x + v) / 2 ^ (m - j))) q
    ∙ ap ones (mul-add-div_right (pow_pos (m - j)) (c * 2 ^ j) v)
    ∙ ones_cat j c (v / 2 ^ (m - j)) (shr_lt j (m - j) (rw e l))

-- no slot is before slot 0
ones_before_none : (n bitmap : ℕ) → bitmap < 2 ^ n → ones_before n bitmap 0 ≡ 0
ones_before_none n bitmap p = omega (arith, ones_before_le n bitmap 0 (omega arith) p)

pub ones_before_counts : OnesBeforeCounts
ones_before_counts n bitmap zero h p = ones_before_none n bitmap p
ones_before_counts n bitmap (suc j) h p =
    ap (ones_before n bitmap) (sym (add-one j)) ∙ ones_before_suc n bitmap j (omega arith)
    ∙ omega (arith, ones_before_counts n bitmap j (omega arith) p, bit_odd (bitmap / 2 ^ (n - 1 - j)))

-- a bit is a one or a zero
one_or_zero : (x : ℕ) → bit (eqb (x % 2) 1) + bit (eqb (x % 2) 0) ≡ 1
one_or_zero x =
    ⊎_elim
    (λ (t : eqb (x % 2) 0 ≡ true). let z = eqb-true (x % 2) 0 t in rw (t, ne_eqb (x % 2) 1 (λ e. omega arith)))
    (λ (t : eqb (x % 2) 0 ≡ false). let z = eqb-false (x % 2) 0 t in rw (t, eq-eqb (x % 2) 1 (omega arith)))
    (way (eqb (x % 2) 0))

-- each slot before j is counted once
slots_with_both : (n bitmap j : ℕ) → slots_with n bitmap 1 j + slots_with n bitmap 0 j ≡ j
slots_with_both n bitmap zero = omega arith
slots_with_both n bitmap (suc j) = omega (arith, slots_with_both n bitmap j, one_or_zero (bitmap / 2 ^ (n - 1 - j)))

pub zeros_before_counts : ZerosBeforeCounts
zeros_before_counts n bitmap j h p = omega (arith, ones_before_counts n bitmap j h p, slots_with_both n bitmap j)

-- where no slot before j has the bit, none is counted
pub slots_with_none : (n bitmap b j : ℕ) → ((i : ℕ) → i < j → slot_bit n bitmap i ≡ b → ⊥) → slots_with n bitmap b j ≡ 0
slots_with_none n bitmap b zero h = refl
slots_with_none n bitmap b (suc j) h =
    let e : bit (eqb (slot_bit n bitmap j) b) ≡ 0 = ap bit (ne_eqb (slot_bit n bitmap j) b (h j (omega arith))) in
    omega (arith, e, slots_with_none n bitmap b j (λ i l. h i (omega arith)))
