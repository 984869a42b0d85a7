-- Defines the checks of the calls on segment tables, in their order, and where the entries of a segment stand: RULES, "Segment tables",
-- "Lookup in segment tables", "The entries of a segment" and "Order of the checks". Entries are told apart by their top bits and codewords
-- are counted bit by bit, and not as the lookup's own definition does it. Assumes nothing.
use Rattle.std.specs.Prelude.{◌≡◌, ◌⊎◌, List, ℕ, ◌+◌, ◌-◌, ◌*◌, ◌/◌, ◌%◌, ◌^◌, ◌<◌, length, get_or}
use Rattle.lists.specs.Below.{number_below}
use Rattle.bits.specs.Bitmap.{slots_with}
use Rattle.refusals.specs.Refusals.{no_room, not_in_order}
use Rattle.routes.specs.Bounds.{last_port}
use Rattle.routes.specs.Routes.{route_at, route_count, Words}
use Rattle.routes.specs.declared.Route.{Route}
use Rattle.segment_rules.specs.Packed.{block_size, codewords, most_kept, packed_size}
use Rattle.segment_rules.specs.Tables.{first_size, has_last, has_packed, has_plain}
use Rattle.segment_rules.specs.Lookup.{sixteen, third, fourth, block_word}
use Rattle.segment_rules.specs.Build.{Stores}
use Rattle.demands.specs.Lamp.{Verdict, shows, done, whether, refuse}
use Rattle.demands.specs.Checks.{list_checks}

-- "9 as for the image, each store in turn": 65,536 entries, 96 words for each packed segment, 256 for each plain one and each last block
abbrev pub stores_room : (ℕ → Route) → ℕ → Stores → Verdict
stores_room R n lent =
    refuse no_room 0 (length lent.first < first_size)
    (refuse no_room 0 (length lent.packed < number_below (has_packed R n) (2 ^ 16) * packed_size)
    (refuse no_room 0 (length lent.plain < number_below (has_plain R n) (2 ^ 16) * block_size)
    (refuse no_room 0 (length lent.last < number_below (has_last R n) (2 ^ 24) * block_size) done)))

-- "the list checks, then 9"
abbrev pub segment_checks : List ℕ → Stores → Verdict
segment_checks list lent = list_checks 32 list (stores_room (route_at list) (route_count list) lent)

-- what the four stores may hold: "16-bit" words
pub record SixteenBits (s : Stores) : Type 0 where
  pub first : Words 16 s.first
  pub packed : Words 16 s.packed
  pub plain : Words 16 s.plain
  pub last : Words 16 s.last

-- "A 16-bit entry is a port, or ... its top bit is set"; one with more bits is neither
abbrev pub TopClear : ℕ → Type 0
TopClear entry = entry / 2 ^ 15 ≡ 0

abbrev pub TopSet : ℕ → Type 0
TopSet entry = entry / 2 ^ 15 ≡ 1

-- "and the rest numbers a block": in a segment
abbrev pub last_named : ℕ → ℕ
last_named entry = entry % 2 ^ 15

-- "in the first table the next bit then marks a plain segment", and the rest numbers it
abbrev pub MarkClear : ℕ → Type 0
MarkClear entry = entry / 2 ^ 14 % 2 ≡ 0

abbrev pub segment_named : ℕ → ℕ
segment_named entry = entry % 2 ^ 14

-- "a block past its store": it is not there whole
abbrev pub PastStore : List ℕ → ℕ → ℕ → Type 0
PastStore store size b = length store < b * size + size

-- "base plus the ones through the entry's bit": the base is the codeword's low half, the bit of entry j the one numbered j of the high half
abbrev pub ones_through : ℕ → ℕ → ℕ
ones_through code j = code % 2 ^ 8 + slots_with 8 (code / 2 ^ 8) 1 (j + 1)

-- "a packed index (base plus the ones through the entry's bit, less 1) outside 0..63"
abbrev pub NoIndex : ℕ → Type 0
NoIndex ones = (ones ≡ 0) ⊎ (63 < ones - 1)

-- A lookup of address a: 11 for each word read that is wrong, and for a block past its store, until a port is answered. A word that is wrong
-- counts as read, a block past its store adds none. What is seen of the reads beside the number is `seen`: nothing but place 0, or how many.
module _ (seen : ℕ → ℕ) (s : Stores) (a : ℕ) where
  -- "a port above 4094"
  abbrev pub port_checks : ℕ → ℕ → Verdict
  port_checks reads port = refuse not_in_order (seen reads) (last_port < port) (shows 0 (seen reads))

  -- an entry of a segment, the last of so many words read
  abbrev pub entry_checks : ℕ → ℕ → Verdict
  entry_checks reads entry =
      whether (TopClear entry)
      (port_checks reads entry)
      (refuse not_in_order (seen reads) (PastStore s.last block_size (last_named entry))
      (port_checks (reads + 1) (block_word s.last block_size (last_named entry) (fourth a))))

  -- "thirty-two codewords, ... and 64 entries": the codeword of the third octet, then the entry at the index that it gives
  abbrev pub packed_checks : ℕ → Verdict
  packed_checks b =
      let ones : ℕ = ones_through (block_word s.packed packed_size b (third a / 8)) (third a % 8) in
      refuse not_in_order (seen 1) (PastStore s.packed packed_size b)
      (refuse not_in_order (seen 2) (NoIndex ones) (entry_checks 3 (block_word s.packed packed_size b (codewords + (ones - 1)))))

  -- "its 256 entries stand in a plain store"
  abbrev pub plain_checks : ℕ → Verdict
  plain_checks b =
      refuse not_in_order (seen 1) (PastStore s.plain block_size b)
      (entry_checks 2 (block_word s.plain block_size b (third a)))

  abbrev pub first_checks : ℕ → Verdict
  first_checks entry =
      whether (TopClear entry)
      (port_checks 1 entry)
      (whether (MarkClear entry) (packed_checks (segment_named entry)) (plain_checks (segment_named entry)))

  -- "a first table under 65,536 entries (no read)"
  abbrev pub word_checks : Verdict
  word_checks = refuse not_in_order (seen 0) (length s.first < first_size) (first_checks (get_or s.first (sixteen a) 0))

-- what the lamp shows: its place is 0
abbrev pub segment_lookup_checks : Stores → ℕ → Verdict
segment_lookup_checks s a = word_checks (λ _. 0) s a

-- "reads, which it counts": the number and the reads, of a refused lookup too
abbrev pub segment_reads : Stores → ℕ → Verdict
segment_reads s a = word_checks (λ reads. reads) s a

-- "all 256 or all 64, and none if the first-table entry given names no segment in its store": the offset and how many. An entry above
-- 16 bits names none.
abbrev pub entries_stand : List ℕ → List ℕ → ℕ → Verdict
entries_stand packed plain entry =
    let b : ℕ = segment_named entry in
    whether (TopSet entry)
    (whether (MarkClear entry)
    (whether (PastStore packed packed_size b) (shows 0 0) (shows (b * packed_size + codewords) most_kept))
    (whether (PastStore plain block_size b) (shows 0 0) (shows (b * block_size) block_size)))
    (shows 0 0)
