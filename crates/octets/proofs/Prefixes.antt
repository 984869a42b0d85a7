-- The bytes of a prefix: how many, what a reader makes of them where they stand, and what stands written again. Assumes nothing.
use mathlib.Core.Path.{◌≡◌, sym, ap, ap₂, ◌∙◌}
use mathlib.Core.List.{List, ◌++◌}
use Prim.Native.Nat.{ℕ, ◌+◌, ◌*◌, ◌/◌, ◌%◌, ◌^◌, ◌≤◌, ◌<◌}
use native.Mathlib.Omega.{arith}
use native.Mathlib.Nat.{add-zero, mod-eq_of_lt, div-add-mod'}
use lib.Pow.{shr_lt, shl_lt, shl-shr}
use lib.ListN.{length, get_or, take, drop, length-append, length-drop}
use lib.Seq.{take-add, take_at, drop_at, drop-cons, drop-drop, get_or-drop, length-take-le}
use borrow.Author.Tests.{le-leb, eqb-true}
use Rattle.bits.specs.Prefix.{Valid, span}
use Rattle.bits.proofs.Order.{zeros_longer}
use Rattle.bits.proofs.Prefix.{clear_first, first_le, first_valid}
use Rattle.prefix.specs.Prefixes.{prefix}
use Rattle.octets.specs.Bytes.{number, digits, Bytes}
use Rattle.octets.specs.Octets.{prefix_bytes, prefix_size, bits_after, len_at, value_from, prefix_at, prefix_octets}
use Rattle.octets.specs.Taken.{taken_at}
use Rattle.std.proofs.Common.{Ok}
use Rattle.octets.proofs.Bytes.{length_digits, number_digits, number_lt, digits_taken, bytes_drop, bytes_take}

-- as many as the length says
pub length_prefix_octets : (w value len : ℕ) → length (prefix_octets w value len) ≡ prefix_size len
length_prefix_octets w value len = omega (arith, length_digits (prefix_bytes len) (value / 2 ^ bits_after w len))

-- the bits that the bytes of a valid prefix leave out are zero, and so its value comes back
value_back : (w value len : ℕ) → w % 8 ≡ 0 → Valid w value len
    → number (digits (prefix_bytes len) (value / 2 ^ bits_after w len)) * 2 ^ bits_after w len ≡ value
value_back w value len whole ok =
    let k : ℕ = prefix_bytes len in
    let gap : ℕ = bits_after w len in
    let fit : 8 * k ≤ w = omega (arith, ok.short, whole) in
    let all : 8 * k + gap ≡ w = omega (arith, fit) in
    let low : value % 2 ^ gap ≡ 0 = zeros_longer w value len (8 * k) (omega arith) fit ok.zeros in
    let small : value / 2 ^ gap < 2 ^ (8 * k) = shr_lt (8 * k) gap (rw all ok.fits) in
    ap (λ (x : ℕ). x * 2 ^ gap) (number_digits k (value / 2 ^ gap) ∙ mod-eq_of_lt small)
    ∙ omega (arith, div-add-mod' value (2 ^ gap), low)

-- the bytes of a prefix stand at an offset, and others after them
module _ (w value len : ℕ) (bytes : List ℕ) (at : ℕ) (rest : List ℕ) (is : drop at bytes ≡ prefix_octets w value len ++ rest) where
  abbrev high : List ℕ
  high = digits (prefix_bytes len) (value / 2 ^ bits_after w len)

  pub len_back : len_at bytes at ≡ len
  len_back =
      ap (λ (i : ℕ). get_or bytes i 0) (sym (add-zero at)) ∙ sym (get_or-drop at bytes 0 0) ∙ ap (λ (l : List ℕ). get_or l 0 0) is

  after_len : drop (at + 1) bytes ≡ high ++ rest
  after_len = sym (drop-drop 1 at bytes) ∙ ap (drop 1) is

  pub rest_back : drop (at + prefix_size len) bytes ≡ rest
  rest_back =
      sym (drop-drop (prefix_size len) at bytes) ∙ ap (drop (prefix_size len)) is
      ∙ drop_at (prefix_octets w value len) rest (prefix_size len) (length_prefix_octets w value len)

  pub uncut_back : at + prefix_size len ≤ length bytes
  uncut_back =
      omega (arith, sym (length-drop at bytes) ∙ ap length is ∙ length-append (prefix_octets w value len) rest, length_prefix_octets w value len)

  -- a valid one is read as it was
  module _ (whole : w % 8 ≡ 0) (ok : Valid w value len) where
    pub prefix_back : prefix_at w bytes at ≡ prefix value len
    prefix_back =
        rw (len_back, after_len, take_at high rest (prefix_bytes len) (length_digits (prefix_bytes len) (value / 2 ^ bits_after w len)), value_back w value len whole ok)
        (ap (λ (v : ℕ). prefix v len) (first_valid w value len ok))

    pub taken_back : taken_at w bytes at ≡ Ok (prefix value len)
    unfolding taken_at
    taken_back =
        simp (le-leb (len_at bytes at) w (rw len_back ok.short), le-leb (at + prefix_size (len_at bytes at)) (length bytes) (rw len_back uncut_back))
        (ap Ok prefix_back)

-- a prefix that stands at an offset and is not cut
module _ (w : ℕ) (bytes : List ℕ) (at : ℕ) (all : Bytes bytes) (uncut : at + prefix_size (len_at bytes at) ≤ length bytes) where
  abbrev len : ℕ
  len = len_at bytes at

  abbrev k : ℕ
  k = prefix_bytes len

  -- as its bytes state it, it writes the bytes that stand there
  pub prefix_taken : take (prefix_size len) (drop at bytes) ≡ prefix_octets w (value_from w bytes (at + 1) len) len
  prefix_taken =
      let x = number (take k (drop (at + 1) bytes)) in
      let size : prefix_size len ≡ 1 + k = omega arith in
      ap (λ (n : ℕ). take n (drop at bytes)) size ∙ take-add 1 k (drop at bytes)
      ∙ ap₂ (λ (a b : List ℕ). a ++ b) (ap (take 1) (drop-cons bytes at 0 (omega arith)))
      (ap (take k) (drop-drop 1 at bytes) ∙ sym (digits_taken bytes (at + 1) k all (omega arith)) ∙ ap (digits k) (sym (shl-shr x (bits_after w len))))

  -- and read, it is a prefix
  pub prefix_valid : w % 8 ≡ 0 → len ≤ w → Valid w (prefix_at w bytes at).value (prefix_at w bytes at).len
  prefix_valid whole short =
      let X = take k (drop (at + 1) bytes) in
      let l : length X ≡ k = length-take-le k (drop (at + 1) bytes) (rw (length-drop (at + 1) bytes) (omega arith)) in
      let n : number X < 2 ^ (8 * k) = rw l at (number_lt X (bytes_take k (drop (at + 1) bytes) (bytes_drop bytes (at + 1) all))) in
      let y : 8 * k + bits_after w len ≡ w = omega (arith, whole) in
      let stated = rw y at (shl_lt {a = number X} (8 * k) (bits_after w len) n) in
      record {
        fits = omega (arith, stated, first_le w (value_from w bytes (at + 1) len) len);
        short = short;
        zeros = eqb-true ((prefix_at w bytes at).value % span w len) 0 (clear_first w (value_from w bytes (at + 1) len) len);
      }
