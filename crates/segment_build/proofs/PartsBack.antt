-- A part of a store that was lent on is in its place again: the whole is the store with the part's words stored one after the other.
-- Assumes nothing.
use mathlib.Core.Path.{◌≡◌, sym, ap, ap₂, ◌∙◌}
use mathlib.Core.Bool.{true}
use mathlib.Core.List.{List, ◌++◌, append_assoc}
use Prim.Native.Nat.{ℕ, ◌+◌, ◌-◌, ◌*◌, ◌^◌, ◌≤◌, ◌<◌}
use native.Mathlib.Omega.{arith}
use native.Mathlib.Nat.{mul-one}
use lib.ListN.{length, get_or, take, drop, length-drop}
use lib.Seq.{sets, sets-eq, drop-drop, length-take-le}
use borrow.Author.Tests.{eq-eqb}
use borrow.Rule.Slice.PartMut.{put_mid}
use Rattle.promise.specs.Over.{outcome}
use Rattle.lists.specs.Numbered.{list_of}
use Rattle.lists.proofs.Numbered.{length_list_of, list_of_same}
use Rattle.segment_rules.specs.Packed.{block_size, packed_size, is_packed, packed_block}
use Rattle.segment_rules.proofs.Ranks.{length_packed_block}
use Rattle.segment_pack.specs.Pack.{pack_into, copy_into}
use Rattle.segment_ports.specs.RunSearch.{port_from}
use Rattle.segment_ports.specs.Ports.{ports_into}
use Rattle.segment_ports.specs.Needs.{Blocks, Ported}
use Rattle.segment_ports.proofs.Ported.{ported}
use Rattle.segment_build.specs.Needs.{PutLast}

-- the part that is lent on
abbrev part : List ℕ → ℕ → ℕ → List ℕ
part store at size = take (at + size - at) (drop at store)

module _ (store : List ℕ) (at size : ℕ) (room : at + size ≤ length store) where
  pub length_part : length (part store at size) ≡ size
  length_part =
      let e : at + size - at ≡ size = omega arith in
      length-take-le (at + size - at) (drop at store) (omega (arith, length-drop at store)) ∙ e

  pub part_back : (block : List ℕ) → length block ≡ size → put_mid at (at + size - at) store block ≡ sets store at block
  part_back block l =
      let e : at + (at + size - at) ≡ at + length block = omega arith in
      ap (λ (xs : List ℕ). take at store ++ (block ++ xs)) (drop-drop (at + size - at) at store ∙ ap (λ (k : ℕ). drop k store) e)
      ∙ sym (append_assoc (take at store) block (drop (at + length block) store))
      ∙ sym (sets-eq block store at (omega arith))

-- what is left of the part is the block
module _ (store : List ℕ) (at : ℕ) where
  pub packed_back : (entries left : List ℕ) → at + packed_size ≤ length store → is_packed entries ≡ true
      → left ≡ pack_into entries (part store at packed_size) → put_mid at (at + packed_size - at) store left ≡ sets store at (packed_block entries)
  unfolding pack_into
  packed_back entries left room t e =
      let is : left ≡ packed_block entries = e ∙ rw (eq-eqb (length (part store at packed_size)) packed_size (length_part store at packed_size room), t) in
      part_back store at packed_size room left (ap length is ∙ length_packed_block entries t) ∙ ap (sets store at) is

  pub plain_back : (entries left : List ℕ) → at + block_size ≤ length store → left ≡ copy_into entries (part store at block_size)
      → put_mid at (at + block_size - at) store left ≡ sets store at (list_of (λ i. get_or entries i 0) block_size 0)
  unfolding copy_into
  plain_back entries left room e =
      let is : left ≡ list_of (λ i. get_or entries i 0) block_size 0 =
      e ∙ rw (eq-eqb (length (part store at block_size)) block_size (length_part store at block_size room)) in
      part_back store at block_size room left (ap length is ∙ length_list_of (λ i. get_or entries i 0) 256 0) ∙ ap (sets store at) is

  -- ports of blocks that lie within the addresses
  module _ (runs left : List ℕ) (from block size shift next : ℕ) (room : at + size ≤ length store) (ok : Blocks block size shift)
      (e : outcome next left ≡ ports_into runs from block shift (part store at size)) where
    part_ported : Ported runs from block size shift next left
    part_ported =
        let l = length_part store at size room in
        rw l at (ported runs (part store at size) from block shift next left (rw l ok) e)

    pub ports_back : put_mid at (at + size - at) store left ≡ sets store at (list_of (λ b. port_from runs from (b * 2 ^ shift)) size block)
    ports_back =
        let is = part_ported.entries in
        part_back store at size room left (ap length is ∙ length_list_of (λ b. port_from runs from (b * 2 ^ shift)) size block) ∙ ap (sets store at) is

  pub last_back : (runs left : List ℕ) (from y number next : ℕ) → at ≡ number * block_size → at + block_size ≤ length store → y < 2 ^ 24
      → outcome next left ≡ ports_into runs from (y * block_size) 0 (part store at block_size)
      → PutLast runs from y next store number (put_mid at (at + block_size - at) store left)
  last_back runs left from y number next e room low p =
      let ok : Blocks (y * block_size) block_size 0 = record { small = omega arith; few = omega arith; within = omega arith } in
      record {
        written =
            ports_back runs left from (y * block_size) block_size 0 next room ok p
            ∙ ap₂ (λ (k : ℕ) (xs : List ℕ). sets store k xs) e
            (list_of_same (λ b. port_from runs from (b * 2 ^ 0)) (λ b. port_from runs from b) 256 (y * block_size) (λ b u v. ap (port_from runs from) (mul-one b)));
        resumes = λ a h. (part_ported runs left from (y * block_size) block_size 0 next room ok p).resumes a (omega arith);
      }
