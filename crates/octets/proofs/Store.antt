-- Bytes stored one after the other from an offset on. Assumes nothing.
use mathlib.Core.Path.{◌≡◌, refl, sym, ap, ap₂, ◌∙◌}
use mathlib.Core.List.{List, [], ◌∷◌, ◌++◌, append_assoc}
use Prim.Native.Nat.{ℕ, zero, suc, ◌+◌, ◌-◌, ◌*◌, ◌/◌, ◌%◌, ◌^◌, ◌≤◌, ◌<◌, min}
use native.Mathlib.Omega.{arith}
use native.Mathlib.Nat.{min-eq_left}
use native.Mathlib.Numerals.{add-one}
use lib.ListN.{length, get_or, set, take, drop, length-append, length-set}
use lib.Seq.{paste, paste-zero, paste-suc, length-paste, take-paste, drop-paste, take_all, take_at, drop-append-add, drop-drop}
use borrow.Author.Tests.{le-leb, lt-leb}
use Rattle.promise.specs.Over.{over}
use Rattle.octets.specs.Bytes.{digits}
use Rattle.octets.specs.Octets.{prefix_bytes, prefix_size, prefix_octets, stored, put_at, prefix_put}
use Rattle.octets.proofs.Bytes.{length_digits}
use Rattle.octets.proofs.Prefixes.{length_prefix_octets}

pub length_stored : (bytes : List ℕ) (at : ℕ) (new : List ℕ) → at + length new ≤ length bytes → length (stored bytes at new) ≡ length bytes
length_stored bytes at new h = length-paste bytes at new (length new) h (omega arith)

-- nothing stored changes nothing
pub stored_none : (bytes : List ℕ) (at : ℕ) → bytes ≡ stored bytes at []
stored_none bytes at = paste-zero bytes at []

-- one part after the other
pub stored_stored : (bytes : List ℕ) (at : ℕ) (s t : List ℕ) → at + length s + length t ≤ length bytes
    → stored (stored bytes at s) (at + length s) t ≡ stored bytes at (s ++ t)
stored_stored bytes at s t h =
    let n = length s in
    let m = length t in
    let x : take (at + n) (stored bytes at s) ≡ take at bytes ++ take n s = take-paste bytes at s n (omega arith) (omega arith) in
    let y : drop (at + n + m) (stored bytes at s) ≡ drop (at + n + m) bytes =
    sym (drop-drop m (at + n) (stored bytes at s)) ∙ ap (drop m) (drop-paste bytes at s n (omega arith) (omega arith)) ∙ drop-drop m (at + n) bytes in
    let z : at + (n + m) ≡ at + n + m = omega arith in
    rw (x, y, length-append s t, take_all n s (omega arith), take_all m t (omega arith), take_all (n + m) (s ++ t) (omega (arith, length-append s t)), z)
    (ap (λ (l : List ℕ). l ++ drop (at + n + m) bytes) (append_assoc (take at bytes) s t))

-- onto what was written over the front
pub stored_over : (out lent new : List ℕ) (at : ℕ) → length out ≡ at → stored (over out lent) at new ≡ over (out ++ new) lent
stored_over out lent new at a =
    let k = length new in
    let f : drop (at + k) (over out lent) ≡ drop (length (out ++ new)) lent =
    ap (λ (i : ℕ). drop (i + k) (over out lent)) (sym a) ∙ drop-append-add out (drop (length out) lent) k
    ∙ drop-drop k (length out) lent ∙ ap (λ (i : ℕ). drop i lent) (sym (length-append out new)) in
    rw (take_at out (drop (length out) lent) at a, take_all k new (omega arith), f)

-- the bytes of a number, one by one

digit_at : (k x j : ℕ) → j < k → get_or (digits k x) j 0 ≡ x / 2 ^ (8 * (k - 1 - j)) % 2 ^ 8
unfolding digits
digit_at zero x j h = absurd (omega arith)
digit_at (suc k) x zero h = let z : suc k - 1 - 0 ≡ k = omega arith in rw z
digit_at (suc k) x (suc j) h = let z : suc k - 1 - suc j ≡ k - 1 - j = omega arith in rw z (digit_at k x j (omega arith))

-- j of the k bytes of x are stored
pub record Digits (bytes₀ : List ℕ) (at k x : ℕ) (bytes : List ℕ) (j : ℕ) : Type 0 where
  pub passed : j ≤ k
  pub same : length bytes ≡ length bytes₀
  pub written : bytes ≡ paste bytes₀ at (digits k x) j

module _ (bytes₀ : List ℕ) (at k x : ℕ) where
  pub digits_none : Digits bytes₀ at k x bytes₀ 0
  digits_none = record { passed = omega arith; same = refl; written = paste-zero bytes₀ at (digits k x) }

  module _ (room : at + k ≤ length bytes₀) (bytes : List ℕ) (j : ℕ) (so : Digits bytes₀ at k x bytes j) where
    pub digits_more : j < k → (b : ℕ) → b ≡ x / 2 ^ (8 * (k - 1 - j)) % 2 ^ 8 → Digits bytes₀ at k x (set bytes (at + j) b) (j + 1)
    digits_more h b e = record {
      passed = omega arith;
      same = simp length-set so.same;
      written =
          ap₂ (λ (f : List ℕ) (y : ℕ). set f (at + j) y) so.written (e ∙ sym (digit_at k x j h))
          ∙ paste-suc bytes₀ at (digits k x) j 0 (omega arith) (omega (arith, length_digits k x))
          ∙ ap (paste bytes₀ at (digits k x)) (sym (add-one j));
    }

    pub digits_all : k ≤ j → bytes ≡ stored bytes₀ at (digits k x)
    digits_all h =
        let e : j ≡ length (digits k x) = omega (arith, so.passed, length_digits k x) in
        so.written ∙ ap (paste bytes₀ at (digits k x)) e

-- the two parts of a prefix
pub prefix_stored : (w : ℕ) (bytes₀ bytes₁ bytes₂ : List ℕ) (at k value len : ℕ) → len < 2 ^ 8 → k ≡ prefix_bytes len
    → at + prefix_size len ≤ length bytes₀ → bytes₁ ≡ stored bytes₀ at (digits 1 len)
    → bytes₂ ≡ stored bytes₁ (at + 1) (digits k (value / 2 ^ (w - 8 * k)))
    → bytes₂ ≡ stored bytes₀ at (prefix_octets w value len)
unfolding digits
prefix_stored w bytes₀ bytes₁ bytes₂ at k value len short k-is room one two =
    let B : List ℕ = digits k (value / 2 ^ (w - 8 * k)) in
    let lb : length B ≡ k = length_digits k (value / 2 ^ (w - 8 * k)) in
    let byte : len / 2 ^ (8 * 0) % 2 ^ 8 ≡ len = omega arith in
    let a : bytes₁ ≡ stored bytes₀ at (len ∷ []) = one ∙ ap (λ (b : ℕ). stored bytes₀ at (b ∷ [])) byte in
    two ∙ ap (λ (l : List ℕ). stored l (at + 1) B) a ∙ stored_stored bytes₀ at (len ∷ []) B (omega (arith, lb, k-is))
    ∙ ap (λ (j : ℕ). stored bytes₀ at ((len ∷ []) ++ digits j (value / 2 ^ (w - 8 * j)))) k-is

-- what is stored where there is room, and only there

module _ (bytes : List ℕ) (at : ℕ) (new : List ℕ) where
  pub put_fits : at + length new ≤ length bytes → put_at bytes at new ≡ stored bytes at new
  unfolding put_at
  put_fits h = rw (le-leb (at + length new) (length bytes) h)

  pub put_over : length bytes < at + length new → put_at bytes at new ≡ bytes
  unfolding put_at
  put_over h = rw (lt-leb (at + length new) (length bytes) h)

-- a number, of n bytes
module _ (bytes : List ℕ) (at k x n : ℕ) (n_is : n ≡ min k 4) where
  pub number_over : length bytes < at + n → put_at bytes at (digits (min k 4) x) ≡ bytes
  number_over h = put_over bytes at (digits (min k 4) x) (omega (arith, length_digits (min k 4) x, n_is))

  pub number_stored : at + n ≤ length bytes → put_at bytes at (digits (min k 4) x) ≡ stored bytes at (digits n x)
  number_stored h =
      put_fits bytes at (digits (min k 4) x) (omega (arith, length_digits (min k 4) x, n_is))
      ∙ ap (λ (m : ℕ). stored bytes at (digits m x)) (sym n_is)

-- one that fits
pub number_fits : (bytes : List ℕ) (at k x : ℕ) → k ≤ 4 → at + k ≤ length bytes → put_at bytes at (digits (min k 4) x) ≡ stored bytes at (digits k x)
number_fits bytes at k x few h = number_stored bytes at k x k (sym (min-eq_left few)) h

-- a prefix
module _ (w : ℕ) (bytes : List ℕ) (at value len : ℕ) where
  pub prefix_long : w < len → prefix_put w bytes at value len ≡ bytes
  unfolding prefix_put
  prefix_long h = rw (lt-leb len w h)

  prefix_short : len ≤ w → prefix_put w bytes at value len ≡ put_at bytes at (prefix_octets w value len)
  unfolding prefix_put
  prefix_short h = rw (le-leb len w h)

  pub prefix_over : len ≤ w → length bytes < at + prefix_size len → prefix_put w bytes at value len ≡ bytes
  prefix_over short h = prefix_short short ∙ put_over bytes at (prefix_octets w value len) (omega (arith, length_prefix_octets w value len))

  pub prefix_fits : len ≤ w → at + prefix_size len ≤ length bytes → prefix_put w bytes at value len ≡ stored bytes at (prefix_octets w value len)
  prefix_fits short h = prefix_short short ∙ put_fits bytes at (prefix_octets w value len) (omega (arith, length_prefix_octets w value len))
