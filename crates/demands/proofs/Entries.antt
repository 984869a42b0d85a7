-- What the debug page finds where a call says that the entries of a segment stand: RULES, "The entries of a segment". Assumes nothing.
use mathlib.Core.Path.{◌≡◌, ap, ◌∙◌}
use mathlib.Core.Logic.{◌⊎◌, inl, inr, ⊎_elim}
use mathlib.Core.Bool.{Bool, true, false, cond}
use mathlib.Core.List.{List}
use Prim.Native.Nat.{ℕ, ◌-◌, ◌^◌, ◌<◌}
use native.Mathlib.Omega.{arith}
use lib.Dec.{leb, ltb}
use lib.ListN.{length, get_or, take, drop, get_or-append}
use borrow.Author.Tests.{ltb-true, ltb-false, le-leb, lt-leb}
use Rattle.promise.specs.Over.{over}
use Rattle.lists.proofs.Tests.{way}
use Rattle.routes.specs.Routes.{route_at, route_count, Words}
use Rattle.routes.proofs.Check.{accepted_valid}
use Rattle.segment_rules.specs.declared.Part.{Part}
use Rattle.segment_rules.specs.Packed.{block_size, packed_size}
use Rattle.segment_rules.specs.Tables.{pointer, plain_pointer, first_table, packed_store, plain_store}
use Rattle.segment_rules.specs.Lookup.{is_block}
use Rattle.segment_rules.specs.Parts.{names_segment, part_of, part_words, entries_of}
use Rattle.segment_rules.specs.Theorems.{segment_part}
use Rattle.segment_rules.specs.Build.{Stores, build_segments}
use Rattle.segment_rules.proofs.Stores.{length_first}
use Rattle.segment_rules.proofs.Parts.{entries_are}
use Rattle.segment_rules.proofs.AfterBuild.{build_accepted, build_done}

module _ (packed plain entry : ℕ) where
  -- a part is in the store that the entry names, or is of no entry
  part_in : ((part_of packed plain entry).plain ≡ leb plain_pointer entry) ⊎ ((part_of packed plain entry).count ≡ 0)
  unfolding part_of
  part_in =
      ⊎_elim
      (λ (t : names_segment entry ≡ true).
      ⊎_elim
      (λ (u : ltb entry plain_pointer ≡ true).
      ⊎_elim
      (λ (h : is_block packed packed_size (entry - pointer) ≡ true). inl (rw (t, u, h, lt-leb plain_pointer entry (ltb-true entry plain_pointer u))))
      (λ (h : is_block packed packed_size (entry - pointer) ≡ false). inr (rw (t, u, h)))
      (way (is_block packed packed_size (entry - pointer))))
      (λ (u : ltb entry plain_pointer ≡ false).
      ⊎_elim
      (λ (h : is_block plain block_size (entry - plain_pointer) ≡ true). inl (rw (t, u, h, le-leb plain_pointer entry (ltb-false entry plain_pointer u))))
      (λ (h : is_block plain block_size (entry - plain_pointer) ≡ false). inr (rw (t, u, h)))
      (way (is_block plain block_size (entry - plain_pointer))))
      (way (ltb entry plain_pointer)))
      (λ (t : names_segment entry ≡ false). inr (rw t))
      (way (names_segment entry))

-- so the words there are those of the part
words_of : (packed plain : List ℕ) (p : Part) (b : Bool) → (p.plain ≡ b) ⊎ (p.count ≡ 0)
    → take p.count (drop p.from (cond b plain packed)) ≡ part_words packed plain p
words_of packed plain p b (inl e) = rw e
words_of packed plain p b (inr e) = rw e

pub entries_there : (packed plain : List ℕ) (entry : ℕ)
    → let p : Part = part_of (length packed) (length plain) entry in
    take p.count (drop p.from (cond (leb plain_pointer entry) plain packed)) ≡ entries_of packed plain entry
unfolding entries_of
entries_there packed plain entry =
    words_of packed plain (part_of (length packed) (length plain) entry) (leb plain_pointer entry) (part_in (length packed) (length plain) entry)

-- and after a build those of the segment
pub entries_built : (list : List ℕ) (lent : Stores) (i : ℕ) → Words 32 list → (build_segments list lent).built.number ≡ 0 → i < 2 ^ 16
    → let s : Stores = (build_segments list lent).stores in
    entries_of s.packed s.plain (get_or s.first i 0) ≡ segment_part (route_at list) (route_count list) i
entries_built list lent i fits e below =
    let R = route_at list in
    let n = route_count list in
    ap (λ (t : Stores). entries_of t.packed t.plain (get_or t.first i 0)) (build_done list lent e)
    ∙ ap (entries_of (over (packed_store R n) lent.packed) (over (plain_store R n) lent.plain))
    (get_or-append (first_table R n) (drop (length (first_table R n)) lent.first) 0 i (omega (arith, length_first R n)))
    ∙ entries_are R n i lent.packed lent.plain (accepted_valid 32 list fits (build_accepted list lent e)) below
