-- Laws of prefixes, over the width: ends, matching as a range, nesting, halves. Assumes nothing.
use mathlib.Core.Path.{◌≡◌, refl, sym, ap, ap₂, ◌∙◌}
use mathlib.Core.Logic.{◌⊎◌, inl, inr, ⊎_elim}
use mathlib.Core.Bool.{Bool, true, false, ◌&&◌, ◌||◌, or-true}
use Prim.Native.Nat.{ℕ, suc, ◌+◌, ◌-◌, ◌*◌, ◌/◌, ◌%◌, ◌^◌, ◌<◌, ◌≤◌}
use native.Mathlib.Omega.{arith}
use native.Mathlib.Nat.{div-add-mod', mod-lt, div-eq_of_lt-le, div-eq_of_lt, mul-div_cancel, mul-mod_left, mul-le-mul_right, suc-mul, mul_comm, mul_assoc}
use lib.Dec.{eqb, leb}
use lib.Pow.{pow_pos, pow-add, shr-shr, shr_lt}
use borrow.Author.Tests.{eq-eqb, ne_eqb, eqb-true, eqb-false, le-leb, leb-true, leb-false}
use Rattle.bits.specs.Prefix.{span, head, clear, Valid, matches, first, last, within, middle}
use Rattle.bits.specs.Theorems.{MatchesWithin, EndsOfValid, WholeMatches, NestOrApart, Halves}
use Rattle.lists.proofs.Tests.{way, both, test_eq, test_no, leb_same}

-- spans and heads

pub span_pos : (w l : ℕ) → 0 < span w l
span_pos w l = pow_pos (w - l)

-- an address is its first bits and what follows
pub head_rest : (w l a : ℕ) → head w l a * span w l + a % span w l ≡ a
head_rest w l a = div-add-mod' a (span w l)

-- the spans of a length and of its complement make the whole space
pub span_whole : (w l : ℕ) → l ≤ w → 2 ^ l * span w l ≡ 2 ^ w
span_whole w l h = sym (pow-add 2 l (w - l)) ∙ ap (λ (k : ℕ). 2 ^ k) (omega arith)

pub span_half : (w l : ℕ) → l < w → span w (l + 1) * 2 ≡ span w l
span_half w l h = sym (pow-add 2 (w - (l + 1)) 1) ∙ ap (λ (k : ℕ). 2 ^ k) (omega arith)

pub head_lt : (w l a : ℕ) → l ≤ w → a < 2 ^ w → head w l a < 2 ^ l
head_lt w l a h k = shr_lt l (w - l) (rw (pow-add 2 l (w - l), span_whole w l h) k)

-- the first l bits are the first l of the first m
pub head_head : (w l m a : ℕ) → l ≤ m → m ≤ w → head w l a ≡ head w m a / 2 ^ (m - l)
head_head w l m a h k =
    let e : w - m + (m - l) ≡ w - l = omega arith in
    sym (shr-shr a (w - m) (m - l) ∙ ap (λ (n : ℕ). a / 2 ^ n) e)

-- what agrees on m bits agrees on fewer
pub head_shorter : (w l m a b : ℕ) → l ≤ m → m ≤ w → head w m a ≡ head w m b → head w l a ≡ head w l b
head_shorter w l m a b h k e = head_head w l m a h k ∙ ap (λ (x : ℕ). x / 2 ^ (m - l)) e ∙ sym (head_head w l m b h k)

-- the addresses from a multiple of a span on, one span long, share their first bits
pub head_range : (w l x a : ℕ) → x * span w l ≤ a → a < x * span w l + span w l → head w l a ≡ x
head_range w l x a h k = div-eq_of_lt-le (span w l) h (omega (arith, suc-mul x (span w l)))

-- a match is a range

pub matches_refl : (w v l : ℕ) → matches w v l v ≡ true
matches_refl w v l = eq-eqb (head w l v) (head w l v) refl

pub matches→within : (w v l a : ℕ) → matches w v l a ≡ true → (first w v l ≤ a) × (a ≤ last w v l)
matches→within w v l a t =
    let e : head w l a ≡ head w l v = eqb-true (head w l a) (head w l v) t in
    let d : head w l a * span w l ≡ first w v l = ap (λ (x : ℕ). x * span w l) e in
    (omega (arith, head_rest w l a, d), omega (arith, head_rest w l a, d, mod-lt a (span_pos w l)))

pub within→matches : (w v l a : ℕ) → first w v l ≤ a → a ≤ last w v l → matches w v l a ≡ true
within→matches w v l a h k =
    eq-eqb (head w l a) (head w l v) (head_range w l (head w l v) a h (omega (arith, span_pos w l)))

pub matches_within : MatchesWithin
matches_within w v l a = test_eq (matches w v l a) (within w v l a) there back
  where
    there : matches w v l a ≡ true → within w v l a ≡ true
    there t = let h = matches→within w v l a t in rw (le-leb (first w v l) a h.0, le-leb a (last w v l) h.1)

    back : within w v l a ≡ true → matches w v l a ≡ true
    back t =
        let h = both (leb (first w v l) a) (leb a (last w v l)) t in
        within→matches w v l a (leb-true (first w v l) a h.0) (leb-true a (last w v l) h.1)

-- ends

pub first_valid : (w v l : ℕ) → Valid w v l → first w v l ≡ v
first_valid w v l ok = omega (arith, head_rest w l v, ok.zeros)

-- a value has no bits past the length exactly where it is the first address
pub first_clear : (w v l : ℕ) → eqb (first w v l) v ≡ clear w v l
first_clear w v l =
    test_eq (eqb (first w v l) v) (clear w v l)
    (λ t. eq-eqb (v % span w l) 0 (omega (arith, head_rest w l v, eqb-true (first w v l) v t)))
    (λ t. eq-eqb (first w v l) v (omega (arith, head_rest w l v, eqb-true (v % span w l) 0 t)))

-- a first address has none
pub clear_first : (w v l : ℕ) → clear w (first w v l) l ≡ true
clear_first w v l = eq-eqb (first w v l % span w l) 0 (mul-mod_left (head w l v) (span w l))

-- what is cleared past a longer length first is cleared past the shorter one all the same
pub first_first : (w v l m : ℕ) → l ≤ m → m ≤ w → first w (first w v m) l ≡ first w v l
first_first w v l m h k =
    ap (λ (x : ℕ). x * span w l) (head_shorter w l m (first w v m) v h k (mul-div_cancel (head w m v) (span_pos w m)))

pub first_le : (w v l : ℕ) → first w v l ≤ v
first_le w v l = omega (arith, head_rest w l v)

-- two addresses agree in the first l bits exactly where the prefixes of that length around them begin at one address
pub first_same : (w v l a : ℕ) → eqb (first w a l) (first w v l) ≡ matches w v l a
first_same w v l a = test_eq (eqb (first w a l) (first w v l)) (matches w v l a) there back
  where
    there : eqb (first w a l) (first w v l) ≡ true → matches w v l a ≡ true
    there t =
        let e : first w a l ≡ first w v l = eqb-true (first w a l) (first w v l) t in
        within→matches w v l a (omega (arith, head_rest w l a, e)) (omega (arith, head_rest w l a, e, mod-lt a (span_pos w l)))

    back : matches w v l a ≡ true → eqb (first w a l) (first w v l) ≡ true
    back t = eq-eqb (first w a l) (first w v l) (ap (λ (h : ℕ). h * span w l) (eqb-true (head w l a) (head w l v) t))

-- a prefix whose value is an address ends within the space, whatever its length
pub end_le : (w v l : ℕ) → v < 2 ^ w → first w v l + span w l ≤ 2 ^ w
end_le w v l k =
    let j : ℕ = w - (w - l) in
    let z : j + (w - l) ≡ w = omega arith in
    let s : 2 ^ j * span w l ≡ 2 ^ w = sym (pow-add 2 j (w - l)) ∙ ap (λ (i : ℕ). 2 ^ i) z in
    let h : head w l v < 2 ^ j = shr_lt j (w - l) (rw z k) in
    omega (arith, mul-le-mul_right (span w l) h, suc-mul (head w l v) (span w l), s)

pub last_lt : (w v l : ℕ) → v < 2 ^ w → last w v l < 2 ^ w
last_lt w v l k = omega (arith, end_le w v l k, span_pos w l)

pub ends_of_valid : EndsOfValid
ends_of_valid w v l ok =
    (first_valid w v l ok, last_lt w v l ok.fits)

pub whole_matches : WholeMatches
whole_matches w a h =
    let z : w - 0 ≡ w = omega arith in
    let e : a / 2 ^ w ≡ 0 / 2 ^ w = div-eq_of_lt h ∙ sym (div-eq_of_lt (pow_pos w)) in
    eq-eqb (head w 0 a) (head w 0 0) (rw z e)

-- nesting

pub nest_or_apart : NestOrApart
nest_or_apart w v l v' l' h k =
    ⊎_elim
    (λ (t : matches w v l v' ≡ true). inl (λ a m. eq-eqb (head w l a) (head w l v) (up a m ∙ eqb-true (head w l v') (head w l v) t)))
    (λ (t : matches w v l v' ≡ false). inr (λ a m. ne_eqb (head w l a) (head w l v) (λ e. eqb-false (head w l v') (head w l v) t (sym (up a m) ∙ e))))
    (way (matches w v l v'))
  where
    up : (a : ℕ) → matches w v' l' a ≡ true → head w l a ≡ head w l v'
    up a m = head_shorter w l l' a v' h k (eqb-true (head w l' a) (head w l' v') m)

-- halves

module _ (w v l : ℕ) (h : l < w) where
  -- the prefix begins at an even multiple of a half's span
  first_even : first w v l ≡ head w l v * 2 * span w (l + 1)
  first_even =
      ap (λ (n : ℕ). head w l v * n) (sym (span_half w l h) ∙ mul_comm (span w (l + 1)) 2)
      ∙ sym (mul_assoc (head w l v) 2 (span w (l + 1)))

  middle_odd : middle w v l ≡ suc (head w l v * 2) * span w (l + 1)
  middle_odd = omega (arith, first_even, suc-mul (head w l v * 2) (span w (l + 1)))

  -- a multiple of its span is the first address of a prefix
  first_multiple : (x u : ℕ) → u ≡ x * span w (l + 1) → (u % span w (l + 1) ≡ 0) × (first w u (l + 1) ≡ u)
  first_multiple x u e =
      let z : u % span w (l + 1) ≡ 0 = ap (λ (n : ℕ). n % span w (l + 1)) e ∙ mul-mod_left x (span w (l + 1)) in
      (z, omega (arith, head_rest w (l + 1) u, z))

  module _ (k : v < 2 ^ w) where
    left_valid : Valid w (first w v l) (l + 1)
    left_valid = record {
      fits = omega (arith, end_le w v l k, span_pos w l);
      short = omega arith;
      zeros = (first_multiple (head w l v * 2) (first w v l) first_even).0;
    }

    right_valid : Valid w (middle w v l) (l + 1)
    right_valid = record {
      fits = omega (arith, end_le w v l k, span_half w l h, span_pos w (l + 1));
      short = omega arith;
      zeros = (first_multiple (suc (head w l v * 2)) (middle w v l) middle_odd).0;
    }

    abbrev in_left : ℕ → Bool
    in_left a = matches w (first w v l) (l + 1) a

    abbrev in_right : ℕ → Bool
    in_right a = matches w (middle w v l) (l + 1) a

    left_range : (a : ℕ) → in_left a ≡ true → (first w v l ≤ a) × (a < middle w v l)
    left_range a t =
        let r = matches→within w (first w v l) (l + 1) a t in
        let e = first_valid w (first w v l) (l + 1) left_valid in
        (omega (arith, r.0, e), omega (arith, r.1, e, span_pos w (l + 1)))

    right_range : (a : ℕ) → in_right a ≡ true → (middle w v l ≤ a) × (a ≤ last w v l)
    right_range a t =
        let r = matches→within w (middle w v l) (l + 1) a t in
        let e = first_valid w (middle w v l) (l + 1) right_valid in
        (omega (arith, r.0, e), omega (arith, r.1, e, span_half w l h, span_pos w (l + 1)))

    halves_both : (a : ℕ) → matches w v l a ≡ (in_left a || in_right a)
    halves_both a = test_eq (matches w v l a) (in_left a || in_right a) there (back (way (in_left a)))
      where
        there : matches w v l a ≡ true → (in_left a || in_right a) ≡ true
        there t = go (way (leb (middle w v l) a))
          where
            go : (leb (middle w v l) a ≡ true) ⊎ (leb (middle w v l) a ≡ false) → (in_left a || in_right a) ≡ true
            go (inl u) =
                let r = matches→within w v l a t in
                let e = first_valid w (middle w v l) (l + 1) right_valid in
                let m = leb-true (middle w v l) a u in
                let i : in_right a ≡ true = within→matches w (middle w v l) (l + 1) a (omega (arith, e, m)) (omega (arith, e, r.1, span_half w l h, span_pos w (l + 1))) in
                rw i (or-true (in_left a))
            go (inr u) =
                let r = matches→within w v l a t in
                let e = first_valid w (first w v l) (l + 1) left_valid in
                let m = leb-false (middle w v l) a u in
                let i : in_left a ≡ true = within→matches w (first w v l) (l + 1) a (omega (arith, e, r.0)) (omega (arith, e, m, span_pos w (l + 1))) in
                rw i

        back : (in_left a ≡ true) ⊎ (in_left a ≡ false) → (in_left a || in_right a) ≡ true → matches w v l a ≡ true
        back (inl u) t =
            let r = left_range a u in within→matches w v l a r.0 (omega (arith, r.1, span_half w l h, span_pos w (l + 1)))
        back (inr u) t =
            let r = right_range a (rw u at t) in within→matches w v l a (omega (arith, r.0)) r.1

    halves_apart : (a : ℕ) → in_left a ≡ true → in_right a ≡ false
    halves_apart a t = test_no (in_right a) (λ u. omega (arith, (left_range a t).1, (right_range a u).0))

pub halves : Halves
halves w v l h k = record {
  left_valid = left_valid w v l h k;
  right_valid = right_valid w v l h k;
  both = halves_both w v l h k;
  apart = halves_apart w v l h k;
}

-- the first address of the place whose first d bits write h
abbrev pub start : ℕ → ℕ → ℕ → ℕ
start w d h = h * span w d

-- an address by its first bits
pub head_within : (w l a h : ℕ) → head w l a ≡ h → (start w l h ≤ a) × (a < start w l h + span w l)
head_within w l a h e =
    let p : head w l a * span w l ≡ start w l h = ap (λ (x : ℕ). x * span w l) e in
    (omega (arith, head_rest w l a, p), omega (arith, head_rest w l a, p, mod-lt a (span_pos w l)))

pub head_start : (w l h : ℕ) → head w l (start w l h) ≡ h
head_start w l h = head_range w l h (start w l h) (omega arith) (omega (arith, span_pos w l))

pub start_lt : (w l h : ℕ) → l ≤ w → h < 2 ^ l → start w l h + span w l ≤ 2 ^ w
start_lt w l h k p =
    let m : suc h * span w l ≤ 2 ^ l * span w l = mul-le-mul_right (span w l) p in
    omega (arith, m, suc-mul h (span w l), span_whole w l k)

-- the span of a length, by the spans s bits down
pub span_deeper : (w d s : ℕ) → d + s ≤ w → span w d ≡ 2 ^ s * span w (d + s)
span_deeper w d s h =
    let e : w - d ≡ s + (w - (d + s)) = omega arith in
    ap (λ (k : ℕ). 2 ^ k) e ∙ pow-add 2 s (w - (d + s))

-- away from its ends, a prefix matches an address as it does the one before
pub matches_same : (w v l x : ℕ) → (x ≡ first w v l → ⊥) → (x ≡ last w v l + 1 → ⊥) → matches w v l x ≡ matches w v l (x - 1)
matches_same w v l x a b =
    matches_within w v l x
    ∙ ap₂ (λ (p q : Bool). p && q)
    (leb_same (first w v l) x (first w v l) (x - 1) (λ h. omega arith) (λ h. omega arith))
    (leb_same x (last w v l) (x - 1) (last w v l) (λ h. omega arith) (λ h. omega arith))
    ∙ sym (matches_within w v l (x - 1))
