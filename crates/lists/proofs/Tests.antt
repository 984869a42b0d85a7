-- Laws of Boolean tests: a case on a test that keeps it, and tests that agree. Assumes nothing.
use mathlib.Core.Path.{◌≡◌, refl, sym}
use mathlib.Core.Logic.{◌⊎◌, inl, inr, ⊎_elim}
use mathlib.Core.Bool.{Bool, true, false, ◌&&◌, ◌||◌, false≢true, true≢false}
use Prim.Native.Nat.{ℕ, ◌<◌, ◌≤◌}
use lib.Dec.{eqb, ltb, leb}
use borrow.Author.Tests.{eq-eqb, eqb-true, lt-ltb, ltb-true, ltb-false, le-leb, leb-true}

-- which way a test goes, with the equation
pub way : (b : Bool) → (b ≡ true) ⊎ (b ≡ false)
way true = inl refl
way false = inr refl

pub both : (a b : Bool) → (a && b) ≡ true → (a ≡ true) × (b ≡ true)
both true b e = (refl, e)
both false b e = absurd (false≢true e)

pub neither : (a b : Bool) → (a || b) ≡ false → (a ≡ false) × (b ≡ false)
neither true b e = absurd (true≢false e)
neither false b e = (refl, e)

pub either : (a b : Bool) → (a || b) ≡ true → (a ≡ true) ⊎ (b ≡ true)
either true b e = inl refl
either false b e = inr e

-- two tests that are true together are equal
pub test_eq : (b c : Bool) → (b ≡ true → c ≡ true) → (c ≡ true → b ≡ true) → b ≡ c
test_eq true c f g = sym (f refl)
test_eq false true f g = g refl
test_eq false false f g = refl

-- a test that cannot be true is false
pub test_no : (b : Bool) → (b ≡ true → ⊥) → b ≡ false
test_no true n = absurd (n refl)
test_no false n = refl

pub eqb_same : (a b c d : ℕ) → (a ≡ b → c ≡ d) → (c ≡ d → a ≡ b) → eqb a b ≡ eqb c d
eqb_same a b c d f g =
    test_eq (eqb a b) (eqb c d) (λ t. eq-eqb c d (f (eqb-true a b t))) (λ t. eq-eqb a b (g (eqb-true c d t)))

pub ltb_same : (a b c d : ℕ) → (a < b → c < d) → (c < d → a < b) → ltb a b ≡ ltb c d
ltb_same a b c d f g =
    test_eq (ltb a b) (ltb c d) (λ t. lt-ltb c d (f (ltb-true a b t))) (λ t. lt-ltb a b (g (ltb-true c d t)))

pub leb_same : (a b c d : ℕ) → (a ≤ b → c ≤ d) → (c ≤ d → a ≤ b) → leb a b ≡ leb c d
leb_same a b c d f g =
    test_eq (leb a b) (leb c d) (λ t. le-leb c d (f (leb-true a b t))) (λ t. le-leb a b (g (leb-true c d t)))

pub lt_or_le : (i n : ℕ) → (i < n) ⊎ (n ≤ i)
lt_or_le i n = ⊎_elim (λ e. inl (ltb-true i n e)) (λ e. inr (ltb-false i n e)) (way (ltb i n))

-- none of seven tests
pub none_of_seven : (a b c d e f g : Bool) → (a || b || c || d || e || f || g) ≡ false
    → (a ≡ false) × (b ≡ false) × (c ≡ false) × (d ≡ false) × (e ≡ false) × (f ≡ false) × (g ≡ false)
none_of_seven true b c d e f g z = absurd (true≢false z)
none_of_seven false true c d e f g z = absurd (true≢false z)
none_of_seven false false true d e f g z = absurd (true≢false z)
none_of_seven false false false true e f g z = absurd (true≢false z)
none_of_seven false false false false true f g z = absurd (true≢false z)
none_of_seven false false false false false true g z = absurd (true≢false z)
none_of_seven false false false false false false g z = (refl, refl, refl, refl, refl, refl, z)
