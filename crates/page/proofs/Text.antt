-- Numbers and addresses as text: the last digit and byte apart, and how long they are. Assumes nothing.
use mathlib.Core.Path.{◌≡◌, refl, sym, ap, ◌∙◌}
use mathlib.Core.Logic.{⊎_elim}
use mathlib.Core.Bool.{true, false}
use mathlib.Core.List.{List, ◌++◌}
use Prim.Native.Nat.{ℕ, zero, suc, ◌+◌, ◌-◌, ◌*◌, ◌/◌, ◌%◌, ◌^◌, ◌≤◌, ◌<◌}
use native.Mathlib.Omega.{arith}
use native.Mathlib.Nat.{pow-suc}
use lib.Dec.{ltb}
use lib.ListN.{length, length-append}
use borrow.Author.Tests.{lt-ltb, le-ltb, ltb-true, ltb-false}
use Rattle.lists.proofs.Tests.{way}
use Rattle.page.specs.Text.{dot, digit, decimal, numeral, dotted}

-- one digit, and more

pub decimal_small : (k x : ℕ) → x < 10 → decimal (suc k) x ≡ digit x
unfolding decimal
decimal_small k x h = rw (lt-ltb x 10 h)

pub decimal_large : (k x : ℕ) → 10 ≤ x → decimal (suc k) x ≡ decimal k (x / 10) ++ digit (x % 10)
unfolding decimal
decimal_large k x h = rw (le-ltb x 10 h)

-- a number that k digits hold is the same in one digit more
decimal_suc : (k x : ℕ) → x < 10 ^ suc k → decimal (suc k) x ≡ decimal (suc (suc k)) x
decimal_suc zero x h =
    let l : x < 10 = omega arith in decimal_small 0 x l ∙ sym (decimal_small 1 x l)
decimal_suc (suc k) x h =
    ⊎_elim
    (λ (t : ltb x 10 ≡ true).
    let l = ltb-true x 10 t in decimal_small (suc k) x l ∙ sym (decimal_small (suc (suc k)) x l))
    (λ (t : ltb x 10 ≡ false).
    let l = ltb-false x 10 t in
    decimal_large (suc k) x l
    ∙ ap (λ (s : List ℕ). s ++ digit (x % 10)) (decimal_suc k (x / 10) (omega (arith, pow-suc 10 (suc k))))
    ∙ sym (decimal_large (suc (suc k)) x l))
    (way (ltb x 10))

pub numeral_small : (x : ℕ) → x < 10 → digit x ≡ numeral x
numeral_small x h = sym (decimal_small 9 x h)

pub length_numeral_small : (x : ℕ) → x < 10 → length (numeral x) ≡ 1
length_numeral_small x h = ap length (sym (numeral_small x h))

pub numeral_large : (x : ℕ) → 10 ≤ x → x < 10 ^ 10 → numeral (x / 10) ++ digit (x % 10) ≡ numeral x
numeral_large x h l =
    ap (λ (s : List ℕ). s ++ digit (x % 10)) (sym (decimal_suc 8 (x / 10) (omega arith))) ∙ sym (decimal_large 9 x h)

pub length_numeral_large : (x : ℕ) → 10 ≤ x → x < 10 ^ 10 → length (numeral (x / 10)) + 1 ≡ length (numeral x)
length_numeral_large x h l = sym (length-append (numeral (x / 10)) (digit (x % 10))) ∙ ap length (numeral_large x h l)

-- a number below a power of ten has no more digits than its exponent
decimal_le_large : (k d x : ℕ) → 10 ≤ x → x < 10 ^ suc d → ((e : ℕ) → 0 < e → x / 10 < 10 ^ e → length (decimal k (x / 10)) ≤ e)
    → length (decimal k (x / 10) ++ digit (x % 10)) ≤ suc d
decimal_le_large k zero x l h rest = absurd (omega arith)
decimal_le_large k (suc d) x l h rest =
    rw (length-append (decimal k (x / 10)) (digit (x % 10)))
    (omega (arith, rest (suc d) (omega arith) (omega (arith, pow-suc 10 (suc d)))))

pub decimal_le : (k d x : ℕ) → 0 < d → x < 10 ^ d → length (decimal k x) ≤ d
unfolding decimal
decimal_le zero d x p h = omega arith
decimal_le (suc k) zero x p h = absurd (omega arith)
decimal_le (suc k) (suc d) x p h =
    ⊎_elim
    (λ (t : ltb x 10 ≡ true). rw t (omega arith))
    (λ (t : ltb x 10 ≡ false). rw t (decimal_le_large k d x (ltb-false x 10 t) h (λ e q l. decimal_le k e (x / 10) q l)))
    (way (ltb x 10))

-- one byte, and more

pub dotted_none : (k a : ℕ) → k ≡ 0 → numeral a ≡ dotted k a
unfolding dotted
dotted_none zero a e = refl
dotted_none (suc k) a e = absurd (omega arith)

pub dotted_more : (k a : ℕ) → (k ≡ 0 → ⊥) → dotted (k - 1) (a / 256) ++ dot ++ numeral (a % 256) ≡ dotted k a
unfolding dotted
dotted_more zero a ne = absurd (ne refl)
dotted_more (suc k) a ne = let z : suc k - 1 ≡ k = omega arith in rw z

pub length_dotted_more : (k a : ℕ) → (k ≡ 0 → ⊥) → length (dotted (k - 1) (a / 256)) + 1 + length (numeral (a % 256)) ≡ length (dotted k a)
length_dotted_more k a ne =
    sym (length-append (dotted (k - 1) (a / 256) ++ dot) (numeral (a % 256)) ∙ ap (λ (n : ℕ). n + length (numeral (a % 256))) (length-append (dotted (k - 1) (a / 256)) dot))
    ∙ ap length (dotted_more k a ne)

-- "0.0.0.0" to "255.255.255.255"
pub dotted_le : (k a : ℕ) → a < 256 ^ suc k → length (dotted k a) ≤ k * 4 + 3
dotted_le zero a h = rw (← dotted_none 0 a refl) (decimal_le 10 3 a (omega arith) (omega arith))
dotted_le (suc k) a h =
    let z : suc k - 1 ≡ k = omega arith in
    omega (
      arith,
      rw z at (length_dotted_more (suc k) a (λ e. omega arith)),
      dotted_le k (a / 256) (omega (arith, pow-suc 256 (suc k))),
      decimal_le 10 3 (a % 256) (omega arith) (omega arith),
    )
