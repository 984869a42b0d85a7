use Prim.Native.Nat.{ℕ, ◌-◌, ◌*◌, ◌%◌, ◌^◌, ◌≤◌, ◌<◌, min}
use mathlib.Core.Path.{◌≡◌, ap, ◌∙◌}
use mathlib.Core.List.{List}
use native.Mathlib.Omega.{arith}
use lib.ListN.{length, take, drop}
use Rattle.bits.specs.Prefix.{first}
use Rattle.octets.specs.Bytes.{number}
use Rattle.octets.specs.Octets.{prefix_bytes, value_from}
use Rattle.octets.specs.Gives.{NumberAt}
use Rattle.octets.proofs.Numbers.{number_there, front_cleared, shifted}
use Rattle.octets.proofs.value_from.Goals as goal

-- the number of a prefix's bytes, or of those that are left, shifted up to its place
value_is : (bytes : List ℕ) (from len left k there x : ℕ) → left ≡ length bytes - from → k ≡ prefix_bytes len → len ≤ 32
    → there ≡ min k left → NumberAt bytes from there x
    → ((x * 2 ^ (32 - 8 * k)) % 2 ^ 64 ≡ value_from 32 bytes from len) × ((x * 2 ^ (32 - 8 * k)) % 2 ^ 64 < 2 ^ 32)
value_is bytes from len left k there x left_is is short there-is some =
    let n = number_there bytes from k left there x left_is there-is some in
    let s = shifted 32 x k (omega arith) (omega (arith, is)) n.small in (
      s.0 ∙ ap (λ (y : ℕ). y * 2 ^ (32 - 8 * k)) n.is ∙ ap (λ (j : ℕ). number (take j (drop from bytes)) * 2 ^ (32 - 8 * j)) is,
      omega (arith, s.0, s.1),
    )

pub number_of-requires : goal.number_of-requires
number_of-requires c = (omega (arith, c.left_from-left.ensures, c.if-left-ge4.true), omega arith)

pub returns-then-left-ge4 : goal.returns-then-left-ge4
returns-then-left-ge4 c = let n = c.number_of in
    let a = c.args in
    c.clear_past.ensures
    ∙ front_cleared a.bytes.now a.from (λ i. omega (arith, c.shared_slice_known-1.given i)) a.len n.result
    c.requires (omega (arith, c.left_from-left.ensures, c.if-left-ge4.true)) n.ensures

pub number_of-high-requires : goal.number_of-high-requires
number_of-high-requires c = (omega (arith, c.left_from-left.ensures, c.up_to.ensures.1), omega (arith, c.if-left-ge4.false, c.up_to.ensures.1))

pub clear_past-requires-2 : goal.clear_past-requires-2
clear_past-requires-2 c = let a = c.args in
    ((value_is a.bytes.now a.from a.len _ _ _ _ c.left_from-left.ensures c.prefix_bytes-k.ensures.is c.requires c.up_to.ensures.0 c.number_of-high.ensures).1, c.requires)

pub returns : goal.returns
returns c = let a = c.args in
    c.clear_past-2.ensures
    ∙ ap (λ (y : ℕ). first 32 y a.len)
    (value_is a.bytes.now a.from a.len _ _ _ _ c.left_from-left.ensures c.prefix_bytes-k.ensures.is c.requires c.up_to.ensures.0 c.number_of-high.ensures).0
