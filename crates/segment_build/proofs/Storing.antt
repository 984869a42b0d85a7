-- The segments stored one after the other, and named in the first table. Assumes nothing.
use mathlib.Core.Path.{◌≡◌, refl, sym, ap, ap₂, ◌∙◌}
use mathlib.Core.Logic.{⊎_elim}
use mathlib.Core.Bool.{Bool, true, false, cond}
use mathlib.Core.List.{List, ◌++◌}
use Prim.Native.Nat.{ℕ, ◌+◌, ◌-◌, ◌*◌, ◌^◌, ◌≤◌, ◌<◌}
use native.Mathlib.Omega.{arith}
use native.Mathlib.Nat.{mul-le-mul_right, suc-mul}
use lib.ListN.{length, get_or, set, drop}
use lib.Seq.{sets, set-append_left}
use lib.Dec.{eqb}
use borrow.Author.Tests.{eqb-true, eqb-false}
use Rattle.lists.proofs.Tests.{way}
use Rattle.promise.specs.Over.{over}
use Rattle.promise.proofs.Over.{over_sets, length_over}
use Rattle.lists.specs.Below.{number_below, gathered}
use Rattle.lists.specs.Numbered.{list_of, in_order}
use Rattle.lists.proofs.Numbered.{length_list_of}
use Rattle.lists.proofs.Below.{number_lt, number_mono, gathered_pass, gathered_skip, length_gathered}
use Rattle.routes.specs.declared.Route.{Route}
use Rattle.segment_rules.specs.Blocks.{port_at}
use Rattle.segment_rules.specs.Packed.{block_size, packed_size, is_packed, packed_block}
use Rattle.segment_rules.specs.Tables.{pointer, plain_pointer, first_size, has_segment, segment, has_packed, has_plain, segment_pointer, first_entry, first_table, packed_store, plain_store}
use Rattle.segment_rules.proofs.Stores.{length_segment, packed_each, plain_each, packed_of, plain_of, neither_of}
use Rattle.segment_pack.proofs.Codewords.{words_back}
use Rattle.segment_build.specs.declared.segments.Walk.{Walk}
use Rattle.segment_build.specs.declared.segments.Segment.{Segment}
use Rattle.segment_build.specs.Needs.{marked, Walked, Met, SegmentMet, SegmentRoom, PutSegment, SegmentsRoom, Stored, FilledSegments}
use Rattle.segment_build.proofs.Passes.{none_after, marked_none, marked_more, marked_all}
use Rattle.segment_build.proofs.Walking.{walked_few, x_low, x_later, none_before, has_segment_lem, packed_number, plain_number, not_plain}

-- what is gathered up to a block, where there is none between
pub gathered_to : (test : ℕ → Bool) (f : ℕ → List ℕ) (n m : ℕ) → n ≤ m → ((k : ℕ) → n ≤ k → k < m → test k ≡ false)
    → gathered test f m ≡ gathered test f n
gathered_to test f n m h none =
    let z : n + (m - n) ≡ m = omega arith in
    ap (gathered test f) (sym z) ∙ gathered_skip test f n (m - n) (λ k a b. none k a (omega arith))

-- one block more, at its number
module _ (test : ℕ → Bool) (f : ℕ → List ℕ) (size most : ℕ) (each : (x : ℕ) → x < most → test x ≡ true → length (f x) ≡ size)
    (store lent : List ℕ) (next x : ℕ) (is : store ≡ over (gathered test f next) lent) (later : next ≤ x) (low : x < most)
    (none : (k : ℕ) → next ≤ k → k < x → test k ≡ false) (room : number_below test most * size ≤ length lent) where
  same : gathered test f x ≡ gathered test f next
  same = gathered_to test f next x later none

  length_so_far : length (gathered test f x) ≡ number_below test x * size
  length_so_far = length_gathered test f size x (λ y l t. each y (omega arith) t)

  so_far_le : number_below test x * size ≤ length lent
  so_far_le = omega (arith, room, mul-le-mul_right size (number_mono test x most (omega arith)))

  pub length_store : length store ≡ length lent
  length_store =
      ap length is ∙ length_over (gathered test f next) lent (omega (arith, ap length same, length_so_far, so_far_le))

  -- no block is at x
  pub block_none : test x ≡ false → store ≡ over (gathered test f (x + 1)) lent
  block_none t =
      is ∙ ap (λ (g : List ℕ). over g lent) (sym (gathered_to test f next (x + 1) (omega arith) (λ k a b. at k a b)))
    where
      at : (k : ℕ) → next ≤ k → k < x + 1 → test k ≡ false
      at k a b =
          ⊎_elim
          (λ (s : eqb k x ≡ true). rw (eqb-true k x s) t)
          (λ (s : eqb k x ≡ false). let ne : (k ≡ x → ⊥) = eqb-false k x s in none k a (omega arith))
          (way (eqb k x))

  -- one is
  module _ (t : test x ≡ true) (number : ℕ) (numbered : number ≡ number_below test x) where
    pub block_room : number * size + size ≤ length store
    block_room =
        omega (
          arith,
          length_store,
          room,
          mul-le-mul_right size (number_lt test x most low t),
          suc-mul (number_below test x) size,
          ap (λ (k : ℕ). k * size) numbered,
        )

    pub block_more : (block : List ℕ) → block ≡ f x → sets store (number * size) block ≡ over (gathered test f (x + 1)) lent
    block_more block b =
        let place : number * size ≡ number_below test x * size = ap (λ (k : ℕ). k * size) numbered in
        let so_far : store ≡ over (gathered test f x) lent = is ∙ ap (λ (g : List ℕ). over g lent) (sym same) in
        (λ j. sets (so_far j) (place j) (b j))
        ∙ over_sets (f x) (gathered test f x) lent (number_below test x * size) length_so_far
        (omega (arith, each x low t, block_room, length_store, place))
        ∙ ap (λ (g : List ℕ). over g lent) (sym (gathered_pass test f x t))

-- the entries of a segment, one by one, are the segment
pub entries_back : (R : ℕ → Route) (n x : ℕ) (entries : List ℕ) → entries ≡ segment R n x → list_of (λ i. get_or entries i 0) block_size 0 ≡ segment R n x
entries_back R n x entries e = words_back entries block_size (ap length e ∙ length_segment R n x) ∙ e

-- the three stores

module _ (R : ℕ → Route) (n : ℕ) (runs first packed plain : List ℕ) (room : SegmentsRoom R n runs first packed plain) where
  abbrev marks : ℕ → List ℕ
  marks next = list_of (marked (has_segment R n) (segment_pointer R n) (port_at 32 R n 16) next) first_size 0

  length_marks : (next : ℕ) → length (marks next) ≡ first_size
  length_marks next = length_list_of (marked (has_segment R n) (segment_pointer R n) (port_at 32 R n 16) next) first_size 0

  pub stored_none : Stored R n first packed plain 0 first packed plain
  unfolding in_order
  stored_none = record {
    first_is =
        room.ports
        ∙ ap (λ (xs : List ℕ). over xs first) (marked_none (has_segment R n) (segment_pointer R n) (port_at 32 R n 16) first_size 0 0 (omega arith));
    packed_is = refl;
    plain_is = refl;
  }

  -- segment x is met
  module _ (i x : ℕ) (w : Walk) (met : Met R n runs i x w) (first' packed' plain' : List ℕ)
      (st : Stored R n first packed plain w.next first' packed' plain') where
    low : x < 2 ^ 16
    low = x_low R n runs i x w met

    later : w.next ≤ x
    later = x_later R n runs i x w met

    none : (z : ℕ) → w.next ≤ z → z < x → has_segment R n z ≡ false
    none = none_before R n runs i x w met

    none_packed : (z : ℕ) → w.next ≤ z → z < x → has_packed R n z ≡ false
    none_packed z a b = (neither_of R n z (none z a b)).0

    none_plain : (z : ℕ) → w.next ≤ z → z < x → has_plain R n z ≡ false
    none_plain z a b = (neither_of R n z (none z a b)).1

    pub length_first_so_far : length first' ≡ length first
    length_first_so_far = ap length st.first_is ∙ length_over (marks w.next) first (omega (arith, length_marks w.next, room.first_room))

    module _ (s : Segment) (m : SegmentMet R n runs i x w s) where
      tight_is : s.packed ≡ is_packed (segment R n x)
      tight_is = m.packed_is

      pub segment_room : SegmentRoom first' packed' plain' x s.entries s.packed w
      segment_room =
          let few = walked_few R n runs i w met.ready met.walked in
          let most = met.ready.valid.few in
          record {
            entry = omega (arith, length_first_so_far, low, room.first_room);
            is = m.packed_is ∙ ap is_packed (sym m.entries_are);
            packed_few = omega (arith, few.0);
            plain_few = omega (arith, few.1);
            packed_room = λ t.
                block_room (has_packed R n) (λ y. packed_block (segment R n y)) packed_size (2 ^ 16) (packed_each R n) packed' packed w.next x
                st.packed_is later low none_packed room.packed_room
                (packed_of R n x (has_segment_lem R n runs i x w met) (sym tight_is ∙ t)) w.packed (packed_number R n runs i x w met);
            plain_room = λ f.
                block_room (has_plain R n) (segment R n) block_size (2 ^ 16) (plain_each R n) plain' plain w.next x
                st.plain_is later low none_plain room.plain_room
                (plain_of R n x (has_segment_lem R n runs i x w met) (sym tight_is ∙ f)).1 w.plain (plain_number R n runs i x w met);
          }

      -- it is stored, and named
      module _ (first'' packed'' plain'' : List ℕ) (put : PutSegment first' packed' plain' x s.entries s.packed w first'' packed'' plain'') where
        abbrev here : has_segment R n x ≡ true
        here = has_segment_lem R n runs i x w met

        pointer_is : (b : Bool) → is_packed (segment R n x) ≡ b → cond b (pointer + w.packed) (plain_pointer + w.plain) ≡ segment_pointer R n x
        unfolding segment_pointer
        pointer_is true t = rw t (ap (λ (k : ℕ). pointer + k) (packed_number R n runs i x w met))
        pointer_is false t = rw t (ap (λ (k : ℕ). plain_pointer + k) (plain_number R n runs i x w met))

        named : first'' ≡ over (marks (x + 1)) first
        named =
            let v = cond s.packed (pointer + w.packed) (plain_pointer + w.plain) in
            let z : x - 0 ≡ x = omega arith in
            let is : v ≡ segment_pointer R n x = rw tight_is (pointer_is (is_packed (segment R n x)) refl) in
            let more = marked_more (has_segment R n) (segment_pointer R n) (port_at 32 R n 16) first_size 0 w.next x none here later (omega arith) (omega (arith, low)) in
            put.first_is ∙ ap₂ (λ (l : List ℕ) (k : ℕ). set l x k) st.first_is is
            ∙ set-append_left (marks w.next) (drop (length (marks w.next)) first) x (segment_pointer R n x) (omega (arith, length_marks w.next, low))
            ∙ ap₂ (λ (l : List ℕ) (k : ℕ). l ++ drop k first) (rw z at more) (length_marks w.next ∙ sym (length_marks (x + 1)))

        packed_stored : (b : Bool) → is_packed (segment R n x) ≡ b
            → cond b (sets packed' (w.packed * packed_size) (packed_block s.entries)) packed' ≡ over (gathered (has_packed R n) (λ y. packed_block (segment R n y)) (x + 1)) packed
        packed_stored true t =
            block_more (has_packed R n) (λ y. packed_block (segment R n y)) packed_size (2 ^ 16) (packed_each R n) packed' packed w.next x
            st.packed_is later low none_packed room.packed_room (packed_of R n x here t) w.packed (packed_number R n runs i x w met)
            (packed_block s.entries) (ap packed_block m.entries_are)
        packed_stored false t =
            block_none (has_packed R n) (λ y. packed_block (segment R n y)) packed_size (2 ^ 16) (packed_each R n) packed' packed w.next x
            st.packed_is later low none_packed room.packed_room (plain_of R n x here t).0

        plain_stored : (b : Bool) → is_packed (segment R n x) ≡ b
            → cond b plain' (sets plain' (w.plain * block_size) (list_of (λ k. get_or s.entries k 0) block_size 0)) ≡ over (gathered (has_plain R n) (segment R n) (x + 1)) plain
        plain_stored true t =
            block_none (has_plain R n) (segment R n) block_size (2 ^ 16) (plain_each R n) plain' plain w.next x
            st.plain_is later low none_plain room.plain_room (not_plain R n x t)
        plain_stored false t =
            block_more (has_plain R n) (segment R n) block_size (2 ^ 16) (plain_each R n) plain' plain w.next x
            st.plain_is later low none_plain room.plain_room (plain_of R n x here t).1 w.plain (plain_number R n runs i x w met)
            (list_of (λ k. get_or s.entries k 0) block_size 0) (entries_back R n x s.entries m.entries_are)

        pub stored_more : Stored R n first packed plain s.after.next first'' packed'' plain''
        stored_more = rw m.next_is_lem (record {
          first_is = named;
          packed_is = put.packed_is ∙ rw tight_is (packed_stored (is_packed (segment R n x)) refl);
          plain_is = put.plain_is ∙ rw tight_is (plain_stored (is_packed (segment R n x)) refl);
        })

  -- all segments are met
  module _ (w : Walk) (walked : Walked R n runs n w) (first' packed' plain' : List ℕ)
      (st : Stored R n first packed plain w.next first' packed' plain') where
    none_left : (z : ℕ) → w.next ≤ z → z < 2 ^ 16 → has_segment R n z ≡ false
    none_left z a b = none_after 32 R n 16 room.ready.valid w.next walked.passed z a

    pub stored_all : FilledSegments R n first packed plain first' packed' plain'
    unfolding first_table first_entry packed_store plain_store
    stored_all = record {
      first_is =
          st.first_is
          ∙ ap (λ (xs : List ℕ). over xs first)
          (marked_all (has_segment R n) (segment_pointer R n) (port_at 32 R n 16) first_size 0 w.next (λ z a b. none_left z a (omega arith)));
      packed_is =
          st.packed_is
          ∙ ap (λ (xs : List ℕ). over xs packed)
          (sym (gathered_to (has_packed R n) (λ x. packed_block (segment R n x)) w.next (2 ^ 16) walked.low (λ z a b. (neither_of R n z (none_left z a b)).0)));
      plain_is =
          st.plain_is
          ∙ ap (λ (xs : List ℕ). over xs plain)
          (sym (gathered_to (has_plain R n) (segment R n) w.next (2 ^ 16) walked.low (λ z a b. (neither_of R n z (none_left z a b)).1)));
    }
