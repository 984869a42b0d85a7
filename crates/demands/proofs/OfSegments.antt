-- Demand 1 of the calls on segment tables. Assumes nothing.
use mathlib.Core.Path.{◌≡◌, refl, sym, ap, ◌∙◌}
use mathlib.Core.Bool.{true, false, cond, ◌&&◌, true≢false}
use mathlib.Core.List.{List}
use Prim.Native.Nat.{ℕ, ◌+◌, ◌-◌, ◌*◌, ◌/◌, ◌%◌, ◌^◌, ◌<◌, ◌≤◌}
use native.Mathlib.Omega.{arith}
use lib.Dec.{eqb, leb, ltb}
use lib.ListN.{length, get_or}
use borrow.Author.Tests.{ne_eqb, lt-ltb, le-leb, ltb-true, ltb-false, leb-true}
use Rattle.lists.proofs.Tests.{both}
use Rattle.bits.proofs.Bitmap.{ones_before_counts}
use Rattle.refusals.specs.Refusals.{no_room, not_in_order, found, lost}
use Rattle.refusals.specs.declared.found.Found.{Found}
use Rattle.routes.specs.Bounds.{last_port}
use Rattle.routes.specs.Routes.{route_at, route_count, Words}
use Rattle.routes.specs.declared.Route.{Route}
use Rattle.segment_rules.specs.Packed.{block_size, codewords, most_kept, packed_size}
use Rattle.segment_rules.specs.Tables.{pointer, plain_pointer, first_size, first_table, packed_store, plain_store, last_store}
use Rattle.segment_rules.specs.Lookup.{sixteen, third, fourth, is_block, block_word, port_read, last_read, entry_read, rank_read, is_indexed, packed_read, plain_read, first_read, lookup_in}
use Rattle.segment_rules.specs.Parts.{part, no_part, packed_part, plain_part, names_segment, part_of}
use Rattle.segment_rules.specs.declared.Part.{Part}
use Rattle.segment_rules.specs.Build.{Stores, Left, left, refused_build, blocks_built, tables_over, segments_into, build_segments, lookup_stores}
use Rattle.segment_rules.proofs.Stores.{length_first, length_packed_store, length_plain_store, length_last_store}
use Rattle.demands.specs.Lamp.{shows, done}
use Rattle.demands.specs.SegmentChecks.{stores_room, segment_checks, SixteenBits, TopClear, TopSet, last_named, MarkClear, segment_named, PastStore, ones_through, NoIndex, port_checks, entry_checks, packed_checks, plain_checks, first_checks, word_checks, entries_stand}
use Rattle.demands.proofs.Tells.{Tells, tells_as, tells_le, tells_lt, tells_and}
use Rattle.demands.proofs.Shown.{View, On, on_test, on_whether_then}
use Rattle.demands.proofs.Listed.{on_list}

-- what is seen of a build
abbrev pub segmenting : Stores → View
segmenting lent = record {
  Seen = Left;
  number = λ o. o.built.number;
  place = λ o. o.built.place;
  Kept = λ o. (o.built.packed ≡ 0) × (o.built.plain ≡ 0) × (o.built.last ≡ 0) × (o.stores ≡ lent);
}

refused_on : (lent : Stores) (m p : ℕ) → On (segmenting lent) (shows m p) (left (refused_build m p) lent)
refused_on lent m p = record { exact = (refl, refl); kept = λ _. (refl, refl, refl, refl) }

-- a store is too short for what has so many words
tells_room : (needed : ℕ) (store lent : List ℕ) → length store ≡ needed → Tells (leb (length store) (length lent)) (length lent < needed)
tells_room needed store lent e =
    tells_as (leb (length store) (length lent)) (length lent < length store) (length lent < needed) (λ h. omega arith) (λ h. omega arith)
    (tells_le (length store) (length lent))

module _ (R : ℕ → Route) (n : ℕ) where
  -- "each store in turn"
  room_on : (lent : Stores) → On (segmenting lent) (stores_room R n lent) (segments_into R n lent)
  unfolding segments_into
  room_on lent =
      let v = segmenting lent in
      let tables = left (blocks_built R n) (tables_over R n lent) in
      let without_room = left (refused_build no_room 0) lent in
      let shown = refused_on lent no_room 0 in
      let packed = leb (length (packed_store R n)) (length lent.packed) in
      let plain = leb (length (plain_store R n)) (length lent.plain) in
      let last = leb (length (last_store R n)) (length lent.last) in
      on_test v _ _ (tells_room _ (first_table R n) lent.first (length_first R n)) no_room 0 _
      (λ b. cond (b && packed && plain && last) tables without_room)
      (on_test v _ _ (tells_room _ (packed_store R n) lent.packed (length_packed_store R n)) no_room 0 _
      (λ b. cond (b && plain && last) tables without_room)
      (on_test v _ _ (tells_room _ (plain_store R n) lent.plain (length_plain_store R n)) no_room 0 _
      (λ b. cond (b && last) tables without_room)
      (on_test v _ _ (tells_room _ (last_store R n) lent.last (length_last_store R n)) no_room 0 done (λ b. cond b tables without_room)
      (record { exact = (refl, refl); kept = λ wrong. absurd (wrong refl) }) shown)
      shown)
      shown)
      shown

pub segments_build_refuses : (list : List ℕ) (lent : Stores) → On (segmenting lent) (segment_checks list lent) (build_segments list lent)
unfolding build_segments
segments_build_refuses list lent =
    on_list (segmenting lent)
    (λ c. cond (eqb c.number 0) (segments_into (route_at list) (route_count list) lent) (left (refused_build c.number c.place) lent))
    (λ m p some. rw (ne_eqb m 0 (λ e. omega arith)) (refused_on lent m p)) 32 list _
    (room_on (route_at list) (route_count list) lent)

-- a block past its store
tells_past : (store : List ℕ) (size b : ℕ) → Tells (is_block (length store) size b) (PastStore store size b)
tells_past store size b = tells_le (b * size + size) (length store)

tells_index : (ones : ℕ) → Tells (is_indexed ones) (NoIndex ones)
tells_index ones =
    tells_and (ltb 0 ones) (leb ones most_kept) _ _
    (tells_as (ltb 0 ones) (ones ≤ 0) _ (λ h. omega arith) (λ h. omega arith) (tells_lt 0 ones))
    (tells_as (leb ones most_kept) (most_kept < ones) _ (λ h. omega arith) (λ h. omega arith) (tells_le ones most_kept))

-- what is seen of a lookup: beside the number, what `seen` says of its reads
abbrev pub looking_at : (ℕ → ℕ) → View
looking_at seen = record { Seen = Found; number = λ x. x.number; place = λ x. seen x.reads; Kept = λ x. x.port ≡ 0 }

module _ (seen : ℕ → ℕ) (s : Stores) (a : ℕ) where
  abbrev v : View
  v = looking_at seen

  lost_on : (m reads : ℕ) → On v (shows m (seen reads)) (lost m reads)
  lost_on m reads = record { exact = (refl, refl); kept = λ _. refl }

  port_on : (reads port : ℕ) → On v (port_checks seen s a reads port) (port_read port reads)
  port_on reads port =
      on_test v (leb port last_port) (last_port < port) (tells_le port last_port) not_in_order (seen reads) (shows 0 (seen reads))
      (λ b. cond b (found port reads) (lost not_in_order reads)) (record { exact = (refl, refl); kept = λ wrong. absurd (wrong refl) })
      (lost_on not_in_order reads)

  entry_on : (reads entry : ℕ) → entry < 2 ^ 16 → On v (entry_checks seen s a reads entry) (entry_read s.last entry a reads)
  unfolding entry_read last_read
  entry_on reads entry fits =
      on_whether_then v (ltb entry pointer) (TopClear entry) _ _ (λ b. cond b (port_read entry reads) (last_read s.last (entry - pointer) a reads))
      (λ t. omega (arith, ltb-true entry pointer t)) (λ t h. omega (arith, ltb-false entry pointer t)) (λ _. port_on reads entry)
      (λ t.
      let e : entry - pointer ≡ last_named entry = omega (arith, ltb-false entry pointer t) in
      let b = last_named entry in
      rw e
      (on_test v _ _ (tells_past s.last block_size b) not_in_order _ _
      (λ c. cond c (port_read (block_word s.last block_size b (fourth a)) (reads + 1)) (lost not_in_order reads))
      (port_on (reads + 1) _) (lost_on not_in_order reads)))

  packed_on : (b : ℕ) → Words 16 s.packed → On v (packed_checks seen s a b) (packed_read s.packed s.last b a)
  unfolding packed_read
  packed_on b fits =
      let code = block_word s.packed packed_size b (third a / 8) in
      let ones = ones_through code (third a % 8) in
      let small : code / 256 < 2 ^ 8 = omega (arith, fits (b * packed_size + third a / 8)) in
      let e : rank_read s.packed b a ≡ ones = ap (λ (k : ℕ). code % 256 + k) (ones_before_counts 8 (code / 256) (third a % 8 + 1) (omega arith) small) in
      let entry = block_word s.packed packed_size b (codewords + (ones - 1)) in
      rw e
      (on_test v _ _ (tells_past s.packed packed_size b) not_in_order (seen 1) _
      (λ c. cond c (cond (is_indexed ones) (entry_read s.last entry a 3) (lost not_in_order 2)) (lost not_in_order 1))
      (on_test v _ _ (tells_index ones) not_in_order (seen 2) _ (λ c. cond c (entry_read s.last entry a 3) (lost not_in_order 2))
      (entry_on 3 entry (fits (b * packed_size + (codewords + (ones - 1))))) (lost_on not_in_order 2))
      (lost_on not_in_order 1))

  plain_on : (b : ℕ) → Words 16 s.plain → On v (plain_checks seen s a b) (plain_read s.plain s.last b a)
  unfolding plain_read
  plain_on b fits =
      let entry = block_word s.plain block_size b (third a) in
      on_test v _ _ (tells_past s.plain block_size b) not_in_order (seen 1) _ (λ c. cond c (entry_read s.last entry a 2) (lost not_in_order 1))
      (entry_on 2 entry (fits (b * block_size + third a))) (lost_on not_in_order 1)

  module _ (bits : SixteenBits s) where
    first_on : (entry : ℕ) → entry < 2 ^ 16 → On v (first_checks seen s a entry) (first_read s.packed s.plain s.last entry a)
    unfolding first_read
    first_on entry fits =
        let b = segment_named entry in
        let packed = packed_read s.packed s.last (entry - pointer) a in
        let plain = plain_read s.plain s.last (entry - plain_pointer) a in
        on_whether_then v (ltb entry pointer) (TopClear entry) _ _
        (λ c. cond c (port_read entry 1) (cond (ltb entry plain_pointer) packed plain))
        (λ t. omega (arith, ltb-true entry pointer t)) (λ t h. omega (arith, ltb-false entry pointer t)) (λ _. port_on 1 entry)
        (λ t.
        on_whether_then v (ltb entry plain_pointer) (MarkClear entry) _ _ (λ c. cond c packed plain)
        (λ u. omega (arith, ltb-false entry pointer t, ltb-true entry plain_pointer u)) (λ u h. omega (arith, ltb-false entry plain_pointer u))
        (λ u.
        let e : entry - pointer ≡ b = omega (arith, ltb-false entry pointer t, ltb-true entry plain_pointer u) in
        rw e (packed_on b bits.packed))
        (λ u. let e : entry - plain_pointer ≡ b = omega (arith, ltb-false entry plain_pointer u) in rw e (plain_on b bits.plain)))

    pub words_on : On v (word_checks seen s a) (lookup_stores s a)
    unfolding lookup_in
    words_on =
        let entry = get_or s.first (sixteen a) 0 in
        on_test v (leb first_size (length s.first)) _ (tells_le first_size (length s.first)) not_in_order (seen 0) _
        (λ c. cond c (first_read s.packed s.plain s.last entry a) (lost not_in_order 0))
        (first_on entry (bits.first (sixteen a))) (lost_on not_in_order 0)

-- what is seen of where entries stand: the offset, and how many
abbrev pub standing : View
standing = record { Seen = Part; number = λ p. p.from; place = λ p. p.count; Kept = λ _. Unit {0} }

stands : (p : Part) → On standing (shows p.from p.count) p
stands p = record { exact = (refl, refl); kept = λ _. tt }

pub entries_stand_lem : (packed plain : List ℕ) (entry : ℕ) → On standing (entries_stand packed plain entry) (part_of (length packed) (length plain) entry)
unfolding part_of
entries_stand_lem packed plain entry =
    let v = standing in
    let b = segment_named entry in
    let in-packed = packed_part (length packed) (entry - pointer) in
    let in-plain = plain_part (length plain) (entry - plain_pointer) in
    on_whether_then v (names_segment entry) (TopSet entry) _ _ (λ c. cond c (cond (ltb entry plain_pointer) in-packed in-plain) no_part)
    (λ t. let h = named t in omega arith) (λ t h. test_fails t (omega arith) (omega arith))
    (λ t.
    let h = named t in
    on_whether_then v (ltb entry plain_pointer) (MarkClear entry) _ _ (λ c. cond c in-packed in-plain)
    (λ u. omega (arith, ltb-true entry plain_pointer u)) (λ u k. omega (arith, ltb-false entry plain_pointer u))
    (λ u.
    let e : entry - pointer ≡ b = omega (arith, ltb-true entry plain_pointer u) in
    let there = part false (b * packed_size + codewords) most_kept in
    rw e (on_test v _ _ (tells_past packed packed_size b) 0 0 _ (λ c. cond c there no_part) (stands there) (stands no_part)))
    (λ u.
    let e : entry - plain_pointer ≡ b = omega (arith, ltb-false entry plain_pointer u) in
    let there = part true (b * block_size) block_size in
    rw e (on_test v _ _ (tells_past plain block_size b) 0 0 _ (λ c. cond c there no_part) (stands there) (stands no_part))))
    (λ _. stands no_part)
  where
    named : names_segment entry ≡ true → (pointer ≤ entry) × (entry < pointer + pointer)
    named t =
        let h = both (leb pointer entry) (ltb entry (pointer + pointer)) t in
        (leb-true pointer entry h.0, ltb-true entry (pointer + pointer) h.1)

    test_fails : names_segment entry ≡ false → pointer ≤ entry → entry < pointer + pointer → ⊥
    test_fails t low high = true≢false (sym (rw (le-leb pointer entry low, lt-ltb entry (pointer + pointer) high)) ∙ t)
