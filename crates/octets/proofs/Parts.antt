-- The bytes of numbered elements, summed up and stored one element after the other from an offset on. Assumes nothing.
use mathlib.Core.Path.{◌≡◌, refl, sym, ap, ap₂, ◌∙◌}
use mathlib.Core.List.{List, ◌++◌}
use Prim.Native.Nat.{ℕ, ◌+◌, ◌*◌, ◌≤◌, ◌<◌}
use native.Mathlib.Omega.{arith}
use native.Mathlib.Nat.{mul-le-mul_right}
use lib.ListN.{length}
use Rattle.lists.specs.Numbered.{in_order}
use Rattle.lists.proofs.InOrder.{in_order_more, length_in_order_more, length_in_order_mono, length_in_order_le}
use Rattle.octets.specs.Octets.{stored}
use Rattle.octets.proofs.Store.{length_stored, stored_none, stored_stored}

-- how an element is written: its bytes, and how many they are
pub record Coding (X : Type 0) : Type 0 where
  pub bytes : X → List ℕ
  pub size : X → ℕ
  pub sized : (x : X) → length (bytes x) ≡ size x

module _ {X : Type 0} (code : Coding X) (R : ℕ → X) (n : ℕ) where
  abbrev firsts : ℕ → List ℕ
  firsts i = in_order code.bytes R i

  -- the size of one element more
  size_more : (i k : ℕ) (x : X) → x ≡ R i → k ≡ code.size x → length (firsts i) + k ≡ length (firsts (i + 1))
  size_more i k x x-is k-is =
      let e : k ≡ code.size (R i) = k-is ∙ ap code.size x-is in
      omega (arith, length_in_order_more code.bytes R i, code.sized (R i), e)

  -- the size of the first i is known
  pub record Summed (size i : ℕ) : Type 0 where
    pub passed : i ≤ n
    pub is : size ≡ length (firsts i)

  pub summed_none : Summed 0 0
  unfolding in_order
  summed_none = record { passed = omega arith; is = refl }

  module _ (size i : ℕ) (so : Summed size i) where
    -- none of them takes more than c bytes, and there are m at most
    pub summed_le : (m c : ℕ) → n ≤ m → ((j : ℕ) → j < n → code.size (R j) ≤ c) → size ≤ m * c
    summed_le m c few small =
        let le : i ≤ m = omega (arith, so.passed, few) in
        let each : length (firsts i) ≤ i * c =
        length_in_order_le code.bytes R c i (λ j h. omega (arith, code.sized (R j), small j (omega (arith, so.passed)))) in
        omega (arith, so.is, each, mul-le-mul_right c le)

    pub summed_more : i < n → (k : ℕ) (x : X) → x ≡ R i → k ≡ code.size x → Summed (size + k) (i + 1)
    summed_more h k x x-is k-is =
        record { passed = omega arith; is = ap (λ (s : ℕ). s + k) so.is ∙ size_more i k x x-is k-is }

    pub summed_all : n ≤ i → size ≡ length (firsts n)
    summed_all h =
        let e : i ≡ n = omega (arith, so.passed) in
        so.is ∙ ap (λ (j : ℕ). length (firsts j)) e

  module _ (from : ℕ) (bytes₀ : List ℕ) where
    -- the first i are stored, and the next one goes to an offset
    pub record Laid (bytes : List ℕ) (at i : ℕ) : Type 0 where
      pub passed : i ≤ n
      pub at_end_lem : at ≡ from + length (firsts i)
      pub same : length bytes ≡ length bytes₀
      pub written : bytes ≡ stored bytes₀ from (firsts i)

    pub laid_none : Laid bytes₀ from 0
    unfolding in_order
    laid_none = record { passed = omega arith; at_end_lem = omega arith; same = refl; written = stored_none bytes₀ from }

    module _ (room : from + length (firsts n) ≤ length bytes₀) (bytes : List ℕ) (at i : ℕ) (so : Laid bytes at i) where
      -- the next element ends within the room
      pub laid_next : i < n → (k : ℕ) (x : X) → x ≡ R i → k ≡ code.size x → at + k ≤ length bytes
      laid_next h k x x-is k-is =
          omega (arith, so.at_end_lem, so.same, room, size_more i k x x-is k-is, length_in_order_mono code.bytes R (i + 1) n (omega arith))

      pub laid_more : i < n → (k : ℕ) (x : X) (bytes' : List ℕ) → x ≡ R i → k ≡ code.size x → bytes' ≡ stored bytes at (code.bytes x)
          → Laid bytes' (at + k) (i + 1)
      laid_more h k x bytes' x-is k-is bytes-are =
          let new : List ℕ = code.bytes x in
          let end : at + length new ≤ length bytes = omega (arith, laid_next h k x x-is k-is, code.sized x, k-is) in
          record {
            passed = omega arith;
            at_end_lem = omega (arith, so.at_end_lem, size_more i k x x-is k-is);
            same = ap length bytes-are ∙ length_stored bytes at new end ∙ so.same;
            written =
                bytes-are ∙ ap₂ (λ (b : List ℕ) (p : ℕ). stored b p new) so.written so.at_end_lem
                ∙ stored_stored bytes₀ from (firsts i) new (omega (arith, end, so.at_end_lem, so.same))
                ∙ ap (λ (y : X). stored bytes₀ from (firsts i ++ code.bytes y)) x-is
                ∙ ap (stored bytes₀ from) (sym (in_order_more code.bytes R i));
          }

      pub laid_all : n ≤ i → bytes ≡ stored bytes₀ from (firsts n)
      laid_all h =
          let e : i ≡ n = omega (arith, so.passed) in
          so.written ∙ ap (λ (j : ℕ). stored bytes₀ from (firsts j)) e
