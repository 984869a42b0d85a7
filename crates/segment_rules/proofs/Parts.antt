-- What the debug call hands back of built tables. Assumes nothing.
use mathlib.Core.Path.{◌≡◌, sym, ap, ◌∙◌}
use mathlib.Core.Logic.{⊎_elim}
use mathlib.Core.Bool.{true, false}
use mathlib.Core.List.{List, [], ◌++◌}
use Prim.Native.Nat.{ℕ, ◌+◌, ◌-◌, ◌*◌, ◌^◌, ◌≤◌, ◌<◌}
use native.Mathlib.Omega.{arith}
use lib.ListN.{length, take, drop, length-append, length-take}
use lib.Seq.{length-take-le, take-add, drop-drop, drop_at}
use borrow.Author.Tests.{le-leb, lt-leb, lt-ltb, le-ltb}
use Rattle.promise.specs.Over.{over}
use Rattle.lists.specs.Below.{number_below}
use Rattle.lists.specs.Numbered.{list_of}
use Rattle.lists.proofs.Numbered.{length_list_of}
use Rattle.lists.proofs.Tests.{way, both}
use Rattle.routes.specs.Routes.{ValidList}
use Rattle.routes.specs.declared.Route.{Route}
use Rattle.segment_rules.specs.Blocks.{port_at}
use Rattle.segment_rules.specs.Packed.{block_size, codewords, most_kept, packed_size, codeword, is_packed, packed_block, packed_entries}
use Rattle.segment_rules.specs.Tables.{pointer, plain_pointer, has_segment, segment, has_packed, has_plain, first_entry, packed_store, plain_store}
use Rattle.segment_rules.specs.Lookup.{is_block}
use Rattle.segment_rules.specs.Parts.{part_of, entries_of}
use Rattle.segment_rules.specs.Theorems.{EntriesAre, segment_part}
use Rattle.segment_rules.proofs.Ranks.{length_packed_entries}
use Rattle.segment_rules.proofs.Walk.{port_low}
use Rattle.segment_rules.proofs.Stores.{block_there, block_part, packed_each, plain_each, first_at, packed_of, plain_of, neither_of, first_packed_is, first_plain_is, first_port_is, numbers_fit}

-- the second part of what stands somewhere
part_after_lem : (l a b : List ℕ) (m c : ℕ) → length a ≡ m → length b ≡ c → take (m + c) l ≡ a ++ b → take c (drop m l) ≡ b
part_after_lem l a b m c p q e =
    let long : m + c ≤ length l = omega (arith, length-take (m + c) l, ap length e, length-append a b) in
    let z = length-take-le m l (omega arith) in
    sym (drop_at (take m l) (take c (drop m l)) m z) ∙ ap (drop m) (sym (take-add m c l) ∙ e) ∙ drop_at a b m p

module _ (R : ℕ → Route) (n x : ℕ) (packed plain : List ℕ) (ok : ValidList 32 R n) (below : x < 2 ^ 16) where
  abbrev packs : List ℕ
  packs = over (packed_store R n) packed

  abbrev plains : List ℕ
  plains = over (plain_store R n) plain

  packed_part_lem : has_packed R n x ≡ true
      → take most_kept (drop (number_below (has_packed R n) x * packed_size + codewords) packs) ≡ packed_entries (segment R n x)
  unfolding packed_store packed_block has_packed
  packed_part_lem t =
      let k = number_below (has_packed R n) x in
      let entries = segment R n x in
      let is = (both (has_segment R n x) (is_packed entries) t).1 in
      ap (take most_kept) (sym (drop-drop codewords (k * packed_size) packs))
      ∙ part_after_lem (drop (k * packed_size) packs) (list_of (codeword entries) codewords 0) (packed_entries entries) codewords most_kept
      (length_list_of (codeword entries) codewords 0) (length_packed_entries entries is)
      (block_part (has_packed R n) (λ z. packed_block (segment R n z)) packed_size (2 ^ 16) (packed_each R n) packed x below t)

  packed_there : has_packed R n x ≡ true → is_block (length packs) packed_size (number_below (has_packed R n) x) ≡ true
  unfolding packed_store
  packed_there t = block_there (has_packed R n) (λ z. packed_block (segment R n z)) packed_size (2 ^ 16) (packed_each R n) packed x below t

  module _ (s : has_segment R n x ≡ true) where
    packed_entries_are : is_packed (segment R n x) ≡ true → entries_of packs plains (first_entry R n x) ≡ packed_entries (segment R n x)
    unfolding entries_of part_of
    packed_entries_are p =
        let k = number_below (has_packed R n) x in
        let t = packed_of R n x s p in
        let z : pointer + k - pointer ≡ k = omega arith in
        let few : k ≤ 4096 = omega (arith, (numbers_fit R n x).0, ok.few) in
        rw (first_packed_is R n x s p, le-leb pointer (pointer + k) (omega arith), lt-ltb (pointer + k) (pointer + pointer) (omega arith), lt-ltb (pointer + k) plain_pointer (omega arith), z, packed_there t)
        (packed_part_lem t)

    plain_entries_are : is_packed (segment R n x) ≡ false → entries_of packs plains (first_entry R n x) ≡ segment R n x
    unfolding entries_of part_of plain_store
    plain_entries_are p =
        let k = number_below (has_plain R n) x in
        let t = (plain_of R n x s p).1 in
        let z : plain_pointer + k - plain_pointer ≡ k = omega arith in
        let few : k ≤ 4096 = omega (arith, (numbers_fit R n x).0, ok.few) in
        let there = block_there (has_plain R n) (segment R n) block_size (2 ^ 16) (plain_each R n) plain x below t in
        rw (first_plain_is R n x s p, le-leb pointer (plain_pointer + k) (omega arith), lt-ltb (plain_pointer + k) (pointer + pointer) (omega arith), le-ltb (plain_pointer + k) plain_pointer (omega arith), z, there)
        (block_part (has_plain R n) (segment R n) block_size (2 ^ 16) (plain_each R n) plain x below t)

  no_entries_are : has_segment R n x ≡ false → entries_of packs plains (first_entry R n x) ≡ []
  unfolding entries_of part_of
  no_entries_are s = rw (first_port_is R n x s, lt-leb pointer (port_at 32 R n 16 x) (port_low R n ok 16 x))

  pub first_entries_are : entries_of packs plains (first_entry R n x) ≡ segment_part R n x
  first_entries_are =
      ⊎_elim
      (λ (s : has_segment R n x ≡ true).
      ⊎_elim
      (λ (p : is_packed (segment R n x) ≡ true). rw (packed_of R n x s p) (packed_entries_are s p))
      (λ (p : is_packed (segment R n x) ≡ false). let q = plain_of R n x s p in rw (q.0, q.1) (plain_entries_are s p))
      (way (is_packed (segment R n x))))
      (λ (s : has_segment R n x ≡ false). let q = neither_of R n x s in rw (q.0, q.1) (no_entries_are s))
      (way (has_segment R n x))

pub entries_are : EntriesAre
entries_are R n x packed plain ok below =
    ap (entries_of (over (packed_store R n) packed) (over (plain_store R n) plain)) (first_at R n x below)
    ∙ first_entries_are R n x packed plain ok below
