-- Numbers and their bytes, both ways. Assumes nothing.
use mathlib.Core.Path.{◌≡◌, refl, sym, ap, ap₂, ◌∙◌}
use mathlib.Core.List.{List, [], ◌∷◌, ◌++◌}
use Prim.Native.Nat.{ℕ, zero, suc, ◌+◌, ◌-◌, ◌*◌, ◌/◌, ◌%◌, ◌^◌, ◌≤◌, ◌<◌}
use native.Mathlib.Omega.{arith}
use native.Mathlib.Nat.{add-mul, mul_assoc, mul-le-mul_right, suc-mul, mod-eq_of_lt, mod-le}
use lib.Pow.{pow-add, split, shl-shr, shr-shr, mod-pow-add, field, mod-mod-pow, high, low}
use lib.ListN.{length, get_or, set, take, drop, length-append, length-drop}
use lib.Seq.{get_or-drop, length-take-le, take_at}
use Rattle.octets.specs.Bytes.{number, digits, Bytes}
use Rattle.octets.specs.Theorems.{FewestBytes}

eight : (k : ℕ) → 8 * suc k ≡ 8 + 8 * k
eight k = omega arith

pub length_digits : (k x : ℕ) → length (digits k x) ≡ k
unfolding digits
length_digits zero x = refl
length_digits (suc k) x = ap suc (length_digits k x)

-- a part of bytes is bytes
pub bytes_drop : (bs : List ℕ) (n : ℕ) → Bytes bs → Bytes (drop n bs)
bytes_drop bs n h i = rw (get_or-drop n bs i 0) (h (n + i))

pub bytes_take : (n : ℕ) (bs : List ℕ) → Bytes bs → Bytes (take n bs)
bytes_take zero bs h i = omega arith
bytes_take (suc n) [] h i = omega arith
bytes_take (suc n) (b ∷ bs) h zero = h 0
bytes_take (suc n) (b ∷ bs) h (suc i) = bytes_take n bs (λ j. h (suc j)) i

-- the number of a number's last bytes
pub number_digits : (k x : ℕ) → number (digits k x) ≡ x % 2 ^ (8 * k)
unfolding number digits
number_digits zero x = omega arith
number_digits (suc k) x = rw (length_digits k x, number_digits k x, eight k) (sym (mod-pow-add x 8 (8 * k)))

-- one byte more at the end
pub number_snoc : (bs : List ℕ) (b : ℕ) → number (bs ++ (b ∷ [])) ≡ number bs * 2 ^ 8 + b
unfolding number
number_snoc [] b = omega arith
number_snoc (x ∷ bs) b =
    let n = length bs in
    let P = 2 ^ (8 * n) in
    let z : 8 * (n + 1) ≡ 8 * n + 8 = omega arith in
    let p : x * 2 ^ (8 * length (bs ++ (b ∷ []))) ≡ x * P * 2 ^ 8 =
    ap (λ (k : ℕ). x * 2 ^ (8 * k)) (length-append bs (b ∷ [])) ∙ ap (λ (k : ℕ). x * 2 ^ k) z
    ∙ ap (λ (k : ℕ). x * k) (pow-add 2 (8 * n) 8) ∙ sym (mul_assoc x P (2 ^ 8)) in
    omega (arith, p, number_snoc bs b, add-mul (x * P) (number bs) (2 ^ 8))

pub number_lt : (bs : List ℕ) → Bytes bs → number bs < 2 ^ (8 * length bs)
unfolding number
number_lt [] h = omega arith
number_lt (b ∷ bs) h =
    let P = 2 ^ (8 * length bs) in
    let m : b * P + P ≤ 2 ^ 8 * P = rw (sym (suc-mul b P)) (mul-le-mul_right P (h 0)) in
    rw (eight (length bs), pow-add 2 8 (8 * length bs)) (omega (arith, number_lt bs (λ j. h (suc j)), m))

-- the last bytes of a number are those of its last bytes' number
digits_mod : (k c x : ℕ) → digits k (x % 2 ^ (c + 8 * k)) ≡ digits k x
unfolding digits
digits_mod zero c x = refl
digits_mod (suc k) c x =
    let z : c + 8 * suc k ≡ c + 8 + 8 * k = omega arith in
    rw z
    (ap₂ (λ (b : ℕ) (bs : List ℕ). b ∷ bs)
    (ap (λ (y : ℕ). y % 2 ^ 8) (field x (c + 8) (8 * k)) ∙ mod-mod-pow (x / 2 ^ (8 * k)) c 8)
    (digits_mod k (c + 8) x))

-- the bytes of their number
pub digits_number : (bs : List ℕ) → Bytes bs → digits (length bs) (number bs) ≡ bs
unfolding digits number
digits_number [] h = refl
digits_number (b ∷ bs) h =
    let n = length bs in
    let l = number_lt bs (λ j. h (suc j)) in
    let x = b * 2 ^ (8 * n) + number bs in
    let z : 0 + 8 * n ≡ 8 * n = omega arith in
    let d : digits n x ≡ bs =
    sym (digits_mod n 0 x) ∙ ap (λ (y : ℕ). digits n (x % 2 ^ y)) z ∙ ap (digits n) (low b (8 * n) l)
    ∙ digits_number bs (λ j. h (suc j)) in
    ap₂ (λ (y : ℕ) (ys : List ℕ). y ∷ ys) (ap (λ (y : ℕ). y % 2 ^ 8) (high b (8 * n) l) ∙ mod-eq_of_lt (h 0)) d

-- bytes that stand at an offset are those of the number they write
pub digits_taken : (bytes : List ℕ) (from k : ℕ) → Bytes bytes → from + k ≤ length bytes
    → digits k (number (take k (drop from bytes))) ≡ take k (drop from bytes)
digits_taken bytes from k all h =
    let l : length (take k (drop from bytes)) ≡ k = length-take-le k (drop from bytes) (rw (length-drop from bytes) (omega arith)) in
    ap (λ (j : ℕ). digits j (number (take k (drop from bytes)))) (sym l)
    ∙ digits_number (take k (drop from bytes)) (bytes_take k (drop from bytes) (bytes_drop bytes from all))

-- and a number whose bytes stand there is what they write
pub number_back : (bytes : List ℕ) (at k x : ℕ) (rest : List ℕ) → drop at bytes ≡ digits k x ++ rest → x < 2 ^ (8 * k)
    → number (take k (drop at bytes)) ≡ x
number_back bytes at k x rest is small =
    ap (λ (l : List ℕ). number (take k l)) is ∙ ap number (take_at (digits k x) rest k (length_digits k x))
    ∙ number_digits k x ∙ mod-eq_of_lt small

-- a number with its last s bits cleared

-- the bits further up stay
cleared_above : (x s t : ℕ) → s ≤ t → (x - x % 2 ^ s) / 2 ^ t ≡ x / 2 ^ t
cleared_above x s t h =
    let e : s + (t - s) ≡ t = omega arith in
    let c : x - x % 2 ^ s ≡ x / 2 ^ s * 2 ^ s = omega (arith, split x s) in
    rw (c, ← e, ← shr-shr (x / 2 ^ s * 2 ^ s) s (t - s), shl-shr (x / 2 ^ s) s, shr-shr x s (t - s))

-- and so do the others among the last t
cleared_within : (x s t : ℕ) → s ≤ t → (x - x % 2 ^ s) % 2 ^ t ≡ x % 2 ^ t - x % 2 ^ s
cleared_within x s t h =
    let d : (x - x % 2 ^ s) / 2 ^ t * 2 ^ t ≡ x / 2 ^ t * 2 ^ t = ap (λ (y : ℕ). y * 2 ^ t) (cleared_above x s t h) in
    omega (arith, split (x - x % 2 ^ s) t, split x t, d, mod-le x (2 ^ s))

-- so that of its bytes the last alone changes
pub digits_cleared : (k s x : ℕ) → s ≤ 8 → digits (suc k) (x - x % 2 ^ s) ≡ set (digits (suc k) x) k (x % 2 ^ 8 - x % 2 ^ s)
unfolding digits
digits_cleared zero s x h = ap (λ (b : ℕ). b ∷ []) (omega (arith, cleared_within x s 8 h))
digits_cleared (suc k) s x h =
    ap₂ (λ (b : ℕ) (bs : List ℕ). b ∷ bs)
    (ap (λ (y : ℕ). y % 2 ^ 8) (cleared_above x s (8 * suc k) (omega arith))) (digits_cleared k s x h)

pub last_digit : (k x : ℕ) → get_or (digits (suc k) x) k 0 ≡ x % 2 ^ 8
unfolding digits
last_digit zero x = omega arith
last_digit (suc k) x = last_digit k x

-- the bytes of a prefix
pub fewest_bytes : FewestBytes
fewest_bytes len = (omega arith, λ k h. omega arith)
