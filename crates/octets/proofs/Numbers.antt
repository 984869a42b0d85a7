-- A number read byte by byte, shifted up to its place, and cleared past a length. Assumes nothing.
use mathlib.Core.Path.{◌≡◌, refl, sym, ap, ap₂, subst, ◌∙◌}
use mathlib.Core.Logic.{◌⊎◌, inl, inr}
use mathlib.Core.List.{List, [], ◌∷◌, ◌++◌}
use Prim.Native.Nat.{ℕ, zero, suc, ◌+◌, ◌-◌, ◌*◌, ◌/◌, ◌%◌, ◌^◌, ◌≤◌, ◌<◌, min}
use native.Mathlib.Omega.{arith}
use native.Mathlib.Numerals.{add-one}
use native.Mathlib.Nat.{add-zero, add-suc, div-one, mod-eq_of_lt, min-eq_left, min-eq_right}
use lib.Pow.{pow-add, pow_mono, shl_exact, shl_lt, shr-shr, high}
use lib.ListN.{length, get_or, take, drop, length-drop}
use lib.Seq.{take_all, take-suc, get_or-drop}
use Rattle.lists.proofs.Tests.{lt_or_le}
use Rattle.bits.specs.Prefix.{first}
use Rattle.bits.proofs.Prefix.{first_first, first_le}
use Rattle.octets.specs.Bytes.{number, Bytes}
use Rattle.octets.specs.Octets.{prefix_bytes, value_from}
use Rattle.octets.proofs.Bytes.{number_snoc, bytes_drop}
use Rattle.octets.specs.Gives.{ByteIs, NumberAt}

module _ (bytes : List ℕ) (from : ℕ) where
  pub number_none : NumberAt bytes from 0 0
  unfolding number
  number_none = record { is = refl; small = omega arith }

  -- one byte more
  pub number_more : (j sum b : ℕ) → from + j < length bytes → NumberAt bytes from j sum → ByteIs (get_or bytes (from + j) 0) b
      → NumberAt bytes from (j + 1) (sum * 256 + b)
  number_more j sum b h s y = record { is = next; small = omega (arith, s.small, y.small, p) }
    where
      t : take (j + 1) (drop from bytes) ≡ take j (drop from bytes) ++ (get_or (drop from bytes) j 0 ∷ [])
      t = rw add-one (take-suc (drop from bytes) j 0 (rw (length-drop from bytes) (omega arith)))

      next : sum * 256 + b ≡ number (take (j + 1) (drop from bytes))
      next =
          ap₂ (λ (x y : ℕ). x * 256 + y) s.is (y.is ∙ sym (get_or-drop from bytes j 0))
          ∙ sym (ap number t ∙ number_snoc (take j (drop from bytes)) (get_or (drop from bytes) j 0))

      z : 8 * (j + 1) ≡ 8 + 8 * j
      z = omega arith

      p : 2 ^ (8 * (j + 1)) ≡ 256 * 2 ^ (8 * j)
      p = ap (λ (i : ℕ). 2 ^ i) z ∙ pow-add 2 8 (8 * j)

  -- of more bytes than there are, those that there are
  number_cut : (k left r : ℕ) → left ≡ length bytes - from → left ≤ k → NumberAt bytes from left r → NumberAt bytes from k r
  number_cut k left r e h n = record {
    is = n.is ∙ ap number (take_all left (drop from bytes) (omega (arith, length-drop from bytes)) ∙ sym (take_all k (drop from bytes) (omega (arith, length-drop from bytes))));
    small = omega (arith, n.small, pow_mono {i = 8 * left} {j = 8 * k} (omega arith));
  }

  -- of k bytes, as many as there are
  pub number_there : (k left there r : ℕ) → left ≡ length bytes - from → there ≡ min k left → NumberAt bytes from there r → NumberAt bytes from k r
  number_there k left there r e m n = go (lt_or_le left k)
    where
      go : (left < k) ⊎ (k ≤ left) → NumberAt bytes from k r
      go (inl h) = number_cut k left r e (omega arith) (subst (λ (j : ℕ). NumberAt bytes from j r) (m ∙ min-eq_right (omega arith)) n)
      go (inr h) = subst (λ (j : ℕ). NumberAt bytes from j r) (m ∙ min-eq_left h) n

  -- fewer than four bytes leave room for one more
  pub number_room : (j sum : ℕ) → j < 4 → NumberAt bytes from j sum → sum < 2 ^ 24
  number_room j sum h s = omega (arith, s.small, pow_mono {i = 8 * j} {j = 24} (omega arith))

  -- of more bytes than k, the first k: the others shifted out
  pub number_front : Bytes bytes → (k m : ℕ) → from + (k + m) ≤ length bytes
      → number (take (k + m) (drop from bytes)) / 2 ^ (8 * m) ≡ number (take k (drop from bytes))
  number_front all-bytes k zero h = rw (add-zero k) (div-one _)
  number_front all-bytes k (suc m) h =
      let b : ℕ = get_or (drop from bytes) (k + m) 0 in
      let N : ℕ = number (take (k + m) (drop from bytes)) in
      let z : 8 + 8 * m ≡ 8 * suc m = omega arith in
      let t : take (k + suc m) (drop from bytes) ≡ take (k + m) (drop from bytes) ++ (b ∷ []) =
      rw (add-suc k m) (take-suc (drop from bytes) (k + m) 0 (rw (length-drop from bytes) (omega arith))) in
      ap (λ (n : ℕ). number (take (k + suc m) (drop from bytes)) / 2 ^ n) (sym z)
      ∙ sym (shr-shr (number (take (k + suc m) (drop from bytes))) 8 (8 * m))
      ∙ ap (λ (n : ℕ). n / 2 ^ 8 / 2 ^ (8 * m)) (ap number t ∙ number_snoc (take (k + m) (drop from bytes)) b)
      ∙ ap (λ (n : ℕ). n / 2 ^ (8 * m)) (high N 8 (bytes_drop bytes from all-bytes (k + m)))
      ∙ number_front all-bytes k m (omega arith)

  -- of four bytes, those past the prefix are cleared with its spare bits
  pub front_cleared : Bytes bytes → (len all : ℕ) → len ≤ 32 → from + 4 ≤ length bytes → NumberAt bytes from 4 all
      → first 32 all len ≡ first 32 (value_from 32 bytes from len) len
  front_cleared all-bytes len all short h x =
      let k : ℕ = prefix_bytes len in
      let four : k + (4 - k) ≡ 4 = omega arith in
      let gap : 8 * (4 - k) ≡ 32 - 8 * k = omega arith in
      let front : all / 2 ^ (32 - 8 * k) ≡ number (take k (drop from bytes)) =
      ap (λ (n : ℕ). n / 2 ^ (32 - 8 * k)) x.is ∙ rw (four, gap) at (number_front all-bytes k (4 - k) (omega arith)) in
      sym (first_first 32 all len (8 * k) (omega arith) (omega arith)) ∙ ap (λ (n : ℕ). first 32 (n * 2 ^ (32 - 8 * k)) len) front

-- a number of w bits with those past a length cleared, which is what the code computes at 64
pub cut : (w x l : ℕ) → w ≤ 64 → x < 2 ^ w → (first w x l % 2 ^ 64 ≡ first w x l) × (first w x l < 2 ^ w)
cut w x l wide small =
    let lt : first w x l < 2 ^ w = omega (arith, first_le w x l) in
    (mod-eq_of_lt (omega (arith, lt, pow_mono wide)), lt)

-- a number of k bytes, shifted up to w bits, which is what the code computes at 64
pub shifted : (w x k : ℕ) → w ≤ 64 → 8 * k ≤ w → x < 2 ^ (8 * k)
    → ((x * 2 ^ (w - 8 * k)) % 2 ^ 64 ≡ x * 2 ^ (w - 8 * k)) × (x * 2 ^ (w - 8 * k) < 2 ^ w)
shifted w x k wide fits small =
    let z : 8 * k + (w - 8 * k) ≡ w = omega arith in
    (shl_exact {a = x} (8 * k) (w - 8 * k) 64 small (omega arith), rw z at (shl_lt {a = x} (8 * k) (w - 8 * k) small))
