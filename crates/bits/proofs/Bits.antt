-- Laws of bit strings and of the bits of a number. Assumes nothing.
use mathlib.Core.Path.{◌≡◌, refl, sym, ap, ap₂, ◌∙◌, subst}
use mathlib.Core.Logic.{◌⊎◌, inl, inr, ⊎_elim}
use mathlib.Core.Bool.{Bool, true, false, beq, ◌&&◌, false≢true}
use mathlib.Core.List.{[], ◌∷◌, ◌++◌}
use Prim.Native.Nat.{ℕ, zero, suc, ◌+◌, ◌*◌, ◌-◌, ◌/◌, ◌%◌, ◌^◌, ◌<◌, ◌≤◌}
use native.Mathlib.Omega.{arith}
use native.Mathlib.Nat.{div-div-eq-div-mul, pow-suc, pow-succ', sub-zero, suc-sub-suc, zero-add, suc-add, add-mul, mul_assoc, div-eq_of_lt}
use lib.Dec.{eqb}
use lib.ListN.{length, take, length-append}
use lib.Pow.{shr-shr, pow_pos, pow-add, mod-pow-add, field, mod-mod-pow}
use borrow.Author.Tests.{eq-eqb, ne_eqb, eqb-true, eqb-false}
use Rattle.bits.specs.Bits.{Bits, bit, value, bits, prefix_bits, same, begins, bit_before}
use Rattle.bits.specs.Prefix.{span, head, Valid}
use Rattle.bits.specs.Theorems.{ClearMeans, MatchesBegins}
use Rattle.lists.proofs.Tests.{way, both}
use Rattle.bits.proofs.Prefix.{first_valid}

-- equality of bits, and of bit strings, as a test

pub beq_refl : (b : Bool) → beq b b ≡ true
beq_refl true = refl
beq_refl false = refl

pub beq_eq : (a b : Bool) → beq a b ≡ true → a ≡ b
beq_eq true true e = refl
beq_eq true false e = absurd (false≢true e)
beq_eq false true e = absurd (false≢true e)
beq_eq false false e = refl

pub same_refl : (s : Bits) → same s s ≡ true
same_refl [] = refl
same_refl (b ∷ s) = rw (beq_refl b) (same_refl s)

pub same_eq : (s q : Bits) → same s q ≡ true → s ≡ q
same_eq [] [] e = refl
same_eq [] (b ∷ q) e = absurd (false≢true e)
same_eq (b ∷ s) [] e = absurd (false≢true e)
same_eq (a ∷ s) (b ∷ q) e =
    let h = both (beq a b) (same s q) e in
    ap₂ (λ (c : Bool) (t : Bits). c ∷ t) (beq_eq a b h.0) (same_eq s q h.1)

-- the number that bits write

pub value_lt : (s : Bits) → value s < 2 ^ length s
value_lt [] = omega arith
value_lt (false ∷ s) = rw (pow-suc 2 (length s)) (omega (arith, value_lt s))
value_lt (true ∷ s) = rw (pow-suc 2 (length s)) (omega (arith, value_lt s))

-- a string is its length and its value: one bit more
bits_unique_more : (a b : Bool) (s q : Bits) → length s ≡ length q → (value s ≡ value q → s ≡ q)
    → value (a ∷ s) ≡ value (b ∷ q) → ◌≡◌ {A = Bits} (a ∷ s) (b ∷ q)
bits_unique_more a b s q n ih e = go a b (ap (λ (k : ℕ). 2 ^ k) n) e
  where
    go : (a b : Bool) → 2 ^ length s ≡ 2 ^ length q → value (a ∷ s) ≡ value (b ∷ q) → ◌≡◌ {A = Bits} (a ∷ s) (b ∷ q)
    go false false m e = ap {B = Bits} (λ t. false ∷ t) (ih (omega arith))
    go false true m e = absurd (omega (arith, value_lt s))
    go true false m e = absurd (omega (arith, value_lt q))
    go true true m e = ap {B = Bits} (λ t. true ∷ t) (ih (omega arith))

pub bits_unique : (s q : Bits) → length s ≡ length q → value s ≡ value q → s ≡ q
bits_unique [] [] n e = refl
bits_unique [] (b ∷ q) n e = absurd (omega arith)
bits_unique (a ∷ s) [] n e = absurd (omega arith)
bits_unique (a ∷ s) (b ∷ q) n e =
    let m : length s ≡ length q = omega arith in bits_unique_more a b s q m (bits_unique s q m) e

-- the bits of a number

-- the first bits of a number, one more: twice those before, and the next bit
pub next_bit : (k x : ℕ) → x / 2 ^ k ≡ x / 2 ^ suc k * 2 + x / 2 ^ k % 2
next_bit k x =
    let e : x / 2 ^ k / 2 ≡ x / 2 ^ suc k = div-div-eq-div-mul x (2 ^ k) 2 ∙ ap (λ y. x / y) (sym (pow-suc 2 k)) in
    omega arith

pub bit_odd : (x : ℕ) → bit (eqb (x % 2) 1) ≡ x % 2
bit_odd x =
    ⊎_elim
    (λ (e : eqb (x % 2) 1 ≡ true). ap bit e ∙ sym (eqb-true (x % 2) 1 e))
    (λ (e : eqb (x % 2) 1 ≡ false). let n : (x % 2 ≡ 1 → ⊥) = eqb-false (x % 2) 1 e in ap bit e ∙ omega arith)
    (way (eqb (x % 2) 1))

pub length_take_bits : (j k x : ℕ) → j ≤ k → length (take j (bits k x)) ≡ j
unfolding bits
length_take_bits zero k x h = refl
length_take_bits (suc j) zero x h = absurd (omega arith)
length_take_bits (suc j) (suc k) x h = ap suc (length_take_bits j k x (omega arith))

pub length_bits : (k x : ℕ) → length (bits k x) ≡ k
unfolding bits
length_bits zero x = refl
length_bits (suc k) x = ap suc (length_bits k x)

-- the first bits of a number, and the rest
pub bits_add : (s m x : ℕ) → bits (s + m) x ≡ bits s (x / 2 ^ m) ++ bits m x
unfolding bits
bits_add zero m x = ap (λ (k : ℕ). bits k x) (zero-add m)
bits_add (suc s) m x =
    let e : m + s ≡ s + m = omega arith in
    ap (λ (k : ℕ). bits k x) (suc-add s m)
    ∙ ap₂ (λ (b : Bool) (q : Bits). b ∷ q)
    (ap (λ (y : ℕ). eqb (y % 2) 1) (sym (shr-shr x m s ∙ ap (λ (k : ℕ). x / 2 ^ k) e)))
    (bits_add s m x)

-- bits above the k lowest make no difference to those
pub bits_mod : (m k x : ℕ) → bits k (x % 2 ^ (m + k)) ≡ bits k x
unfolding bits
bits_mod m zero x = refl
bits_mod m (suc k) x =
    let e : m + suc k ≡ suc m + k = omega arith in
    let f : suc m ≡ m + 1 = omega arith in
    ap (λ (n : ℕ). bits (suc k) (x % 2 ^ n)) e
    ∙ ap₂ (λ (b : Bool) (q : Bits). b ∷ q)
    (ap (λ (y : ℕ). eqb (y % 2) 1) (field x (suc m) k ∙ ap (λ (n : ℕ). x / 2 ^ k % 2 ^ n) f)
    ∙ ap (λ (y : ℕ). eqb y 1) (mod-mod-pow (x / 2 ^ k) m 1))
    (bits_mod (suc m) k x)

-- j bits further into a number: those before, and the next j bits as a number
pub value_take_bits : (j k x : ℕ) → j ≤ k → x / 2 ^ (k - j) ≡ x / 2 ^ k * 2 ^ j + value (take j (bits k x))
unfolding bits
value_take_bits zero k x h = rw (sub-zero k) (omega arith)
value_take_bits (suc j) zero x h = absurd (omega arith)
value_take_bits (suc j) (suc k) x h =
    let P : ℕ = x / 2 ^ suc k in
    let B : ℕ = x / 2 ^ k % 2 in
    let ih : x / 2 ^ (k - j) ≡ x / 2 ^ k * 2 ^ j + value (take j (bits k x)) = value_take_bits j k x (omega arith) in
    let e1 : x / 2 ^ k * 2 ^ j ≡ P * 2 * 2 ^ j + B * 2 ^ j =
    ap (λ (z : ℕ). z * 2 ^ j) (next_bit k x) ∙ add-mul (P * 2) B (2 ^ j) in
    let e2 : P * 2 ^ suc j ≡ P * 2 * 2 ^ j = ap (λ (z : ℕ). P * z) (pow-succ' 2 j) ∙ sym (mul_assoc P 2 (2 ^ j)) in
    let e3 : bit (eqb (x / 2 ^ k % 2) 1) * 2 ^ length (take j (bits k x)) ≡ B * 2 ^ j =
    ap₂ (λ (a b : ℕ). a * 2 ^ b) (bit_odd (x / 2 ^ k)) (length_take_bits j k x (omega arith)) in
    rw (suc-sub-suc k j) (omega (arith, ih, e1, e2, e3))

-- the first bits of an address are the bits of its head
pub value_prefix_bits : (w v l : ℕ) → l ≤ w → v < 2 ^ w → value (prefix_bits w v l) ≡ head w l v
value_prefix_bits w v l h k =
    let z : v / 2 ^ w ≡ 0 = div-eq_of_lt k in
    let e : v / 2 ^ w * 2 ^ l ≡ 0 * 2 ^ l = ap (λ (x : ℕ). x * 2 ^ l) z in
    omega (arith, value_take_bits l w v h, e)

-- prefixes with the same bits are one
pub prefix_unique : (w v v' l l' : ℕ) → l ≤ w → l' ≤ w → v < 2 ^ w → v' < 2 ^ w
    → prefix_bits w v l ≡ prefix_bits w v' l' → (l ≡ l') × (head w l v ≡ head w l v')
prefix_unique w v v' l l' h h' k k' e =
    let n : l ≡ l' = sym (length_take_bits l w v h) ∙ ap length e ∙ length_take_bits l' w v' h' in
    (n, sym (value_prefix_bits w v l h k) ∙ ap value e ∙ value_prefix_bits w v' l' h' k' ∙ ap (λ (m : ℕ). head w m v') (sym n))

-- agreement in the first bits

-- numbers that agree up to a bit agree before it
agree_before : (m k v a : ℕ) → m ≤ k → v / 2 ^ (k - m) ≡ a / 2 ^ (k - m) → v / 2 ^ k ≡ a / 2 ^ k
agree_before m k v a h e =
    let z : k - m + m ≡ k = omega arith in
    subst (λ (j : ℕ). v / 2 ^ j ≡ a / 2 ^ j) z (sym (shr-shr v (k - m) m) ∙ ap (λ y. y / 2 ^ m) e ∙ shr-shr a (k - m) m)

-- of numbers that agree but for their last bit, those bits agree if and only if the numbers do
agree_bit : (p q x : ℕ) → p ≡ x * 2 + p % 2 → q ≡ x * 2 + q % 2
    → beq (eqb (p % 2) 1) (eqb (q % 2) 1) ≡ eqb p q
agree_bit p q x e f = go (way (eqb (p % 2) 1)) (way (eqb (q % 2) 1))
  where
    go : (eqb (p % 2) 1 ≡ true) ⊎ (eqb (p % 2) 1 ≡ false) → (eqb (q % 2) 1 ≡ true) ⊎ (eqb (q % 2) 1 ≡ false)
        → beq (eqb (p % 2) 1) (eqb (q % 2) 1) ≡ eqb p q
    go (inl a) (inl b) = rw (a, b) (sym (eq-eqb p q (omega (arith, eqb-true (p % 2) 1 a, eqb-true (q % 2) 1 b))))
    go (inl a) (inr b) =
        let v : (q % 2 ≡ 1 → ⊥) = eqb-false (q % 2) 1 b in
        rw (a, b) (sym (ne_eqb p q (λ g. omega (arith, eqb-true (p % 2) 1 a))))
    go (inr a) (inl b) =
        let u : (p % 2 ≡ 1 → ⊥) = eqb-false (p % 2) 1 a in
        rw (a, b) (sym (ne_eqb p q (λ g. omega (arith, eqb-true (q % 2) 1 b))))
    go (inr a) (inr b) =
        let u : (p % 2 ≡ 1 → ⊥) = eqb-false (p % 2) 1 a in
        let v : (q % 2 ≡ 1 → ⊥) = eqb-false (q % 2) 1 b in
        rw (a, b) (sym (eq-eqb p q (omega arith)))

-- numbers that agree down to their last k bits agree in m bits more if and only if the m bits of one begin the k of the other
pub agree_begins : (m k v a : ℕ) → m ≤ k → v / 2 ^ k ≡ a / 2 ^ k
    → eqb (v / 2 ^ (k - m)) (a / 2 ^ (k - m)) ≡ begins (take m (bits k v)) (bits k a)
unfolding bits
agree_begins zero k v a h e = rw (sub-zero k) (eq-eqb (v / 2 ^ k) (a / 2 ^ k) e)
agree_begins (suc m) zero v a h e = absurd (omega arith)
agree_begins (suc m) (suc k) v a h e =
    rw (suc-sub-suc k m) (go (way (eqb (v / 2 ^ k) (a / 2 ^ k))) (agree_begins m k v a (omega arith)))
  where
    rest : Bool
    rest = begins (take m (bits k v)) (bits k a)

    own : beq (eqb (v / 2 ^ k % 2) 1) (eqb (a / 2 ^ k % 2) 1) ≡ eqb (v / 2 ^ k) (a / 2 ^ k)
    own = agree_bit (v / 2 ^ k) (a / 2 ^ k) (a / 2 ^ suc k) (next_bit k v ∙ ap (λ y. y * 2 + v / 2 ^ k % 2) e) (next_bit k a)

    go : (eqb (v / 2 ^ k) (a / 2 ^ k) ≡ true) ⊎ (eqb (v / 2 ^ k) (a / 2 ^ k) ≡ false)
        → (v / 2 ^ k ≡ a / 2 ^ k → eqb (v / 2 ^ (k - m)) (a / 2 ^ (k - m)) ≡ rest)
        → eqb (v / 2 ^ (k - m)) (a / 2 ^ (k - m)) ≡ (beq (eqb (v / 2 ^ k % 2) 1) (eqb (a / 2 ^ k % 2) 1) && rest)
    go (inl t) ih = ih (eqb-true (v / 2 ^ k) (a / 2 ^ k) t) ∙ sym (ap (λ (z : Bool). z && rest) (own ∙ t))
    go (inr t) ih =
        ne_eqb (v / 2 ^ (k - m)) (a / 2 ^ (k - m)) (λ z. eqb-false (v / 2 ^ k) (a / 2 ^ k) t (agree_before m k v a (omega arith) z))
        ∙ sym (ap (λ (z : Bool). z && rest) (own ∙ t))

pub eqb_sym : (a b : ℕ) → eqb a b ≡ eqb b a
eqb_sym a b =
    ⊎_elim
    (λ (t : eqb a b ≡ true). t ∙ sym (eq-eqb b a (sym (eqb-true a b t))))
    (λ (t : eqb a b ≡ false). t ∙ sym (ne_eqb b a (λ e. eqb-false a b t (sym e))))
    (way (eqb a b))

pub matches_begins : MatchesBegins
matches_begins w v l a h p q =
    eqb_sym (head w l a) (head w l v) ∙ agree_begins l w v a h (div-eq_of_lt p ∙ sym (div-eq_of_lt q))

-- bits one after the other

pub value_append : (s q : Bits) → value (s ++ q) ≡ value s * 2 ^ length q + value q
value_append [] q = omega arith
value_append (b ∷ s) q =
    let n : 2 ^ length (s ++ q) ≡ 2 ^ length s * 2 ^ length q = ap (λ (k : ℕ). 2 ^ k) (length-append s q) ∙ pow-add 2 (length s) (length q) in
    let e : bit b * 2 ^ length (s ++ q) ≡ bit b * 2 ^ length s * 2 ^ length q =
    ap (λ (x : ℕ). bit b * x) n ∙ sym (mul_assoc (bit b) (2 ^ length s) (2 ^ length q)) in
    omega (arith, e, value_append s q, add-mul (bit b * 2 ^ length s) (value s) (2 ^ length q))

pub begins_append : (path s a : Bits) → begins (path ++ s) (path ++ a) ≡ begins s a
begins_append [] s a = refl
begins_append (b ∷ path) s a = rw (beq_refl b) (begins_append path s a)

-- the bit of a number that has k bits after it, where its bits are known up to there
pub bit_at : (path : Bits) (w k l x : ℕ) (b : Bool) (s : Bits) → take l (bits w x) ≡ path ++ (b ∷ s) → w ≡ length path + suc k
    → eqb (x / 2 ^ k % 2) 1 ≡ b
unfolding bits
bit_at path w k zero x b s e n = absurd (omega (arith, sym (length-append path (b ∷ s)) ∙ sym (ap length e)))
bit_at [] zero k (suc l) x b s e n = absurd (omega arith)
bit_at [] (suc w) k (suc l) x b s e n =
    let z : w ≡ k = omega arith in ap (λ (j : ℕ). eqb (x / 2 ^ j % 2) 1) (sym z) ∙ cc
bit_at (c ∷ path) zero k (suc l) x b s e n = absurd (omega arith)
bit_at (c ∷ path) (suc w) k (suc l) x b s e n =
    let t : take l (bits w x) ≡ path ++ (b ∷ s) = cc in bit_at path w k l x b s t (omega arith)

pub begins_more : (p q a : Bits) → (begins q p ≡ true → length p ≤ length q) → begins p (q ++ a) ≡ begins p q
begins_more [] q a h = refl
begins_more (b ∷ p) [] a h = absurd (omega (arith, h refl))
begins_more (b ∷ p) (c ∷ q) a h =
    by (way (beq b c)) (begins_more p q a)
  where
    by : (beq b c ≡ true) ⊎ (beq b c ≡ false)
        → ((begins q p ≡ true → length p ≤ length q) → begins p (q ++ a) ≡ begins p q)
        → (beq b c && begins p (q ++ a)) ≡ (beq b c && begins p q)
    by (inl t) ih =
        let e : beq c b ≡ true = ap (λ (x : Bool). beq c x) (beq_eq b c t) ∙ beq_refl c in
        rw t (ih (λ u. let k : suc (length p) ≤ suc (length q) = h (rw e u) in omega arith))
    by (inr t) ih = rw t

pub begins_take : (q z : Bits) (l : ℕ) → length q ≤ l → begins q (take l z) ≡ begins q z
begins_take [] z l h = refl
begins_take (b ∷ q) z zero h = absurd (omega arith)
begins_take (b ∷ q) [] (suc l) h = refl
begins_take (b ∷ q) (c ∷ z) (suc l) h = rw (begins_take q z l (omega arith))

-- valid prefixes with the same bits are one
pub valid_prefix_unique : (w v l v' l' : ℕ) → Valid w v l → Valid w v' l' → prefix_bits w v l ≡ prefix_bits w v' l'
    → (v ≡ v') × (l ≡ l')
valid_prefix_unique w v l v' l' ok ok' e = (value_is, u.0)
  where
    u : (l ≡ l') × (head w l v ≡ head w l v')
    u = prefix_unique w v v' l l' ok.short ok'.short ok.fits ok'.fits e

    value_is : v ≡ v'
    value_is =
        sym (first_valid w v l ok) ∙ ap (λ (x : ℕ). x * span w l) u.1
        ∙ ap (λ (m : ℕ). head w m v' * span w m) u.0 ∙ first_valid w v' l' ok'

-- bits that are zero

-- the last m + 1 bits: one bit, and those after it
low_suc : (m x : ℕ) → x % 2 ^ suc m ≡ x / 2 ^ m % 2 * 2 ^ m + x % 2 ^ m
low_suc m x = let e : suc m ≡ 1 + m = omega arith in ap (λ (k : ℕ). x % 2 ^ k) e ∙ mod-pow-add x 1 m

-- a bit above others writes no 0 unless it is 0
high_zero : (x p r : ℕ) → 0 < p → x % 2 * p + r ≡ 0 → eqb (x % 2) 1 ≡ false
high_zero x p r h e =
    ne_eqb (x % 2) 1 (λ one. let z : x % 2 * p ≡ 1 * p = ap (λ (y : ℕ). y * p) one in omega (arith, z))

low_zero : (m x : ℕ) → x % 2 ^ m ≡ 0 → (k : ℕ) → k < m → bit_before x k ≡ false
low_zero zero x e k h = absurd (omega arith)
low_zero (suc m) x e k h =
    ⊎_elim
    (λ (t : eqb k m ≡ true). ap (bit_before x) (eqb-true k m t) ∙ high_zero (x / 2 ^ m) (2 ^ m) (x % 2 ^ m) (pow_pos m) (sym (low_suc m x) ∙ e))
    (λ (t : eqb k m ≡ false).
    let other : (k ≡ m → ⊥) = eqb-false k m t in low_zero m x (omega (arith, low_suc m x, e)) k (omega arith))
    (way (eqb k m))

zero_low : (m x : ℕ) → ((k : ℕ) → k < m → bit_before x k ≡ false) → x % 2 ^ m ≡ 0
zero_low zero x h = omega arith
zero_low (suc m) x h =
    let not-one : (x / 2 ^ m % 2 ≡ 1 → ⊥) = eqb-false (x / 2 ^ m % 2) 1 (h m (omega arith)) in
    let b : x / 2 ^ m % 2 ≡ 0 = omega arith in
    let z : x / 2 ^ m % 2 * 2 ^ m ≡ 0 * 2 ^ m = ap (λ (y : ℕ). y * 2 ^ m) b in
    omega (arith, low_suc m x, z, zero_low m x (λ k l. h k (omega arith)))

pub clear_means : ClearMeans
clear_means w v l = (
  λ t i from below. low_zero (w - l) v (eqb-true (v % span w l) 0 t) (w - 1 - i) (omega arith),
  λ zeros. eq-eqb (v % span w l) 0 (zero_low (w - l) v (λ k h.
      let e : w - 1 - (w - 1 - k) ≡ k = omega arith in
      subst (λ (j : ℕ). bit_before v j ≡ false) e (zeros (w - 1 - k) (omega arith) (omega arith)))),
)
