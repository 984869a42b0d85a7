-- Numerals are read back, have digits alone and no leading zero; an address is the numerals of its four bytes: RULES, "Program runs".
-- Assumes nothing.
use mathlib.Core.Path.{◌≡◌, refl, sym, ap, subst, ◌∙◌}
use mathlib.Core.Logic.{⊎_elim}
use mathlib.Core.Bool.{true, false}
use mathlib.Core.List.{List, [], ◌∷◌, ◌++◌}
use Prim.Native.Nat.{ℕ, zero, suc, ◌+◌, ◌-◌, ◌*◌, ◌/◌, ◌%◌, ◌^◌, ◌≤◌, ◌<◌}
use native.Mathlib.Omega.{arith}
use native.Mathlib.Nat.{pow-suc}
use lib.Dec.{ltb, eqb}
use lib.ListN.{length, get_or, length-append, get_or-append}
use borrow.Author.Tests.{ltb-true, ltb-false, eqb-true, eqb-false}
use Rattle.lists.proofs.Tests.{way}
use Rattle.lists.proofs.Flat.{All, all_append, all_at}
use Rattle.page.specs.Text.{digit, decimal, numeral, dotted}
use Rattle.page.specs.Decimal.{read_digits, NumeralIsDecimal, WordIsDecimal, AddressIsFourBytes}
use Rattle.page.proofs.Text.{decimal_small, decimal_large}

-- one digit more
read_digits_more : (before d : ℕ) (text : List ℕ) → read_digits before (text ++ digit d) ≡ read_digits before text * 10 + d
read_digits_more before d [] = omega arith
read_digits_more before d (c ∷ text) = read_digits_more (before * 10 + (c - 48)) d text

abbrev IsDigit : ℕ → Type 0
IsDigit c = (48 ≤ c) × (c ≤ 57)

-- the same, digit by digit; that "0" is the one text that begins with '0' comes last
record Digits (x : ℕ) (text : List ℕ) : Type 0 where
  back : read_digits 0 text ≡ x
  some : 0 < length text
  alone : All IsDigit text
  first : 0 < x → get_or text 0 0 ≡ 48 → ⊥

digits_small : (x : ℕ) → x < 10 → Digits x (digit x)
digits_small x h = record {
  back = omega arith;
  some = omega arith;
  alone = ((omega arith, omega arith), tt);
  first = λ p e. omega arith;
}

digits_large : (x : ℕ) (text : List ℕ) → 10 ≤ x → Digits (x / 10) text → Digits x (text ++ digit (x % 10))
digits_large x text h d = record {
  back = read_digits_more 0 (x % 10) text ∙ omega (arith, d.back);
  some = omega (arith, length-append text (digit (x % 10)));
  alone = all_append IsDigit text (digit (x % 10)) d.alone ((omega arith, omega arith), tt);
  first = λ p e. d.first (omega arith) (sym (get_or-append text (digit (x % 10)) 0 0 d.some) ∙ e);
}

decimal_digits : (k x : ℕ) → x < 10 ^ suc k → Digits x (decimal (suc k) x)
decimal_digits zero x h = rw (decimal_small 0 x (omega arith)) (digits_small x (omega arith))
decimal_digits (suc k) x h =
    ⊎_elim
    (λ (t : ltb x 10 ≡ true). let l = ltb-true x 10 t in subst (Digits x) (sym (decimal_small (suc k) x l)) (digits_small x l))
    (λ (t : ltb x 10 ≡ false).
    let l = ltb-false x 10 t in
    subst (Digits x) (sym (decimal_large (suc k) x l))
    (digits_large x (decimal (suc k) (x / 10)) l (decimal_digits k (x / 10) (omega (arith, pow-suc 10 (suc k))))))
    (way (ltb x 10))

-- only 0 begins with '0'
leading : (x : ℕ) (text : List ℕ) → Digits x text → numeral x ≡ text → get_or text 0 0 ≡ 48 → (x ≡ 0) × (text ≡ 48 ∷ [])
leading x text d is e =
    ⊎_elim
    (λ (t : eqb x 0 ≡ true).
    let z = eqb-true x 0 t in (z, sym is ∙ ap numeral z ∙ decimal_small 9 0 (omega arith)))
    (λ (t : eqb x 0 ≡ false). let z = eqb-false x 0 t in absurd (d.first (omega arith) e))
    (way (eqb x 0))

pub numeral_is_decimal : NumeralIsDecimal
numeral_is_decimal x h =
    let d = decimal_digits 9 x h in
    record {
      reads_back = d.back;
      not_empty = d.some;
      digits_alone = λ i l. all_at IsDigit (numeral x) i 0 l d.alone;
      no_leading_zero = leading x (numeral x) d refl;
    }

pub word_is_decimal : WordIsDecimal
word_is_decimal x h = numeral_is_decimal x (omega arith)

pub address_is_four_bytes : AddressIsFourBytes
unfolding dotted
address_is_four_bytes x h = record {
  first = x / 256 / 256 / 256;
  second = x / 256 / 256 % 256;
  third = x / 256 % 256;
  fourth = x % 256;
  bytes = (omega arith, omega arith, omega arith, omega arith);
  value = omega arith;
  written = refl;
}
