-- Where the entries of a segment stand, case by case, and that the part there is the entries. Assumes nothing.
use mathlib.Core.Path.{◌≡◌, ap, ◌∙◌}
use mathlib.Core.Bool.{Bool, true, false, cond}
use mathlib.Core.List.{List}
use Prim.Native.Nat.{ℕ, ◌+◌, ◌-◌, ◌*◌, ◌≤◌, ◌<◌}
use native.Mathlib.Nat.{add-sub_cancel_left}
use native.Mathlib.Omega.{arith}
use lib.ListN.{length, take, drop}
use borrow.Author.Tests.{le-leb, lt-leb, lt-ltb, le-ltb}
use denote.Ref.{Bor}
use Rattle.segment_rules.specs.declared.Part.{Part}
use Rattle.segment_rules.specs.Packed.{block_size, codewords, most_kept, packed_size}
use Rattle.segment_rules.specs.Tables.{pointer, plain_pointer}
use Rattle.segment_rules.specs.Parts.{part, no_part, packed_part, plain_part, part_of, part_words, entries_of}
use Rattle.segment_entries.specs.Handed.{Placed, Handed, lies_at}

module _ (packed plain entry : ℕ) where
  none_placed : no_part ≡ part_of packed plain entry → Placed packed plain entry no_part
  none_placed e = record { is = e; within = omega arith; small = omega arith }

  pub placed_low : entry < pointer → Placed packed plain entry no_part
  unfolding part_of
  placed_low h = none_placed (rw (lt-leb pointer entry h))

  pub placed_high : pointer + pointer ≤ entry → Placed packed plain entry no_part
  unfolding part_of
  placed_high h = none_placed (rw (le-leb pointer entry (omega arith), le-ltb entry (pointer + pointer) h))

  module _ (names : pointer ≤ entry) (word : entry < pointer + pointer) where
    module _ (marked : plain_pointer ≤ entry) where
      abbrev plain_start : ℕ
      plain_start = (entry - plain_pointer) * block_size

      plain_named : part_of packed plain entry ≡ plain_part plain (entry - plain_pointer)
      unfolding part_of
      plain_named = rw (le-leb pointer entry names, lt-ltb entry (pointer + pointer) word, le-ltb entry plain_pointer marked)

      pub placed_past_plain : plain < plain_start + block_size → Placed packed plain entry no_part
      placed_past_plain h = none_placed (rw (plain_named, lt-leb (plain_start + block_size) plain h))

      pub placed_plain : plain_start + block_size ≤ plain → Placed packed plain entry (part true plain_start block_size)
      placed_plain h = record {
        is = rw (plain_named, le-leb (plain_start + block_size) plain h);
        within = omega arith;
        small = omega arith;
      }

    module _ (unmarked : entry < plain_pointer) where
      abbrev packed_start : ℕ
      packed_start = (entry - pointer) * packed_size

      packed_named : part_of packed plain entry ≡ packed_part packed (entry - pointer)
      unfolding part_of
      packed_named =
          rw (le-leb pointer entry names, lt-ltb entry (pointer + pointer) word, lt-ltb entry plain_pointer unmarked)

      pub placed_past_packed : packed < packed_start + packed_size → Placed packed plain entry no_part
      placed_past_packed h = none_placed (rw (packed_named, lt-leb (packed_start + packed_size) packed h))

      pub placed_packed : packed_start + packed_size ≤ packed → Placed packed plain entry (part false (packed_start + codewords) most_kept)
      placed_packed h = record {
        is = rw (packed_named, le-leb (packed_start + packed_size) packed h);
        within = omega arith;
        small = omega arith;
      }

-- the part of a store from where p stands is handed back, the plain store's or the packed one's
pub part_handed : (packed plain : Bor (List ℕ)) (entry : ℕ) (p : Part) (b : Bool) (r : Bor (List ℕ))
    → Placed (length packed.now) (length plain.now) entry p → p.plain ≡ b
    → r.now ≡ take (p.from + p.count - p.from) (drop p.from (cond b plain.now packed.now))
    → r.ref_ptr ≡ ((cond b plain packed).ref_ptr.0, p.from * 2 + (cond b plain packed).ref_ptr.1)
    → Handed packed plain entry r
unfolding entries_of
part_handed packed plain entry p b r ok t words lies =
    let e : r.now ≡ part_words packed.now plain.now p = rw (t, ← add-sub_cancel_left p.from p.count) words in
    let l : r.ref_ptr ≡ lies_at packed plain p = rw t lies in
    record { is = e ∙ ap (part_words packed.now plain.now) ok.is; there = l ∙ ap (lies_at packed plain) ok.is }
