-- States what this layer is there for: RULES, "UPDATE messages", the refusals of a message, what an accepted one says, and that the
-- message that withdraws a list is read so. Proofs are in proofs/. Assumes nothing.
use Rattle.std.specs.Prelude.{◌≡◌, List, [], ◌∷◌, ◌++◌, ◌⊎◌, ◌↔◌, ℕ, ◌+◌, ◌%◌, ◌≤◌, ◌<◌, length, get_or, take, drop, replicate}
use Rattle.promise.specs.Over.{over, outcome}
use Rattle.lists.specs.Numbered.{list_of}
use Rattle.prefix.specs.Prefixes.{prefix}
use Rattle.refusals.specs.Refusals.{long_prefix, spare_bits, bad_message, refused, accepted}
use Rattle.routes.specs.Routes.{route_at, route_count, ValidList, Words}
use Rattle.routes.specs.declared.Route.{Route}
use Rattle.octets.specs.Bytes.{digits}
use Rattle.octets.specs.Octets.{prefix_size, len_at, prefix_at, prefix_octets}
use Rattle.octets.specs.Taken.{taken_at}
use Rattle.message_rules.specs.Message.{marker_size, length_at, type_at, withdrawn_size_at, withdrawn_at, least_size, most_size, update_type, ones, field_at, withdrawn_size, attributes_size_at, announced_at, withdrawn_part, announced_part, prefixes_in, withdrawn_in, announced_in}
use Rattle.message_rules.specs.Check.{fault_of, head_check, part_check, message_check}
use Rattle.message_rules.specs.Faults.{Marked, RightLength, Headed, offset_of, FirstPrefix, WholePart}
use Rattle.message_rules.specs.Written.{prefixes_of, withdrawal_of, write_message}

-- the head, each fault before the next and before any prefix, at its place: "14 (bytes, marker, length, type, withdrawn part, path
-- attributes)"
abbrev pub MessageUnheaded : Type 0
MessageUnheaded =
    (w : ℕ) (message : List ℕ)
    → (length message < least_size → message_check w message ≡ refused bad_message 0)
    × (least_size ≤ length message → (Marked message → ⊥) → message_check w message ≡ refused bad_message 0)
    × (least_size ≤ length message → Marked message → (RightLength message → ⊥) → message_check w message ≡ refused bad_message length_at)
    × (least_size ≤ length message → Marked message → RightLength message → (get_or message type_at 0 ≡ update_type → ⊥)
    → message_check w message ≡ refused bad_message type_at)
    × (least_size ≤ length message → Marked message → RightLength message → get_or message type_at 0 ≡ update_type
    → length message < attributes_size_at message + 2 → message_check w message ≡ refused bad_message withdrawn_size_at)
    × (least_size ≤ length message → Marked message → RightLength message → get_or message type_at 0 ≡ update_type
    → attributes_size_at message + 2 ≤ length message → length message < announced_at message
    → message_check w message ≡ refused bad_message (attributes_size_at message))

-- none of these: the head is accepted if and only if nothing is wrong with it
abbrev pub HeadDone : Type 0
HeadDone = (message : List ℕ) → (head_check message ≡ accepted 0) ↔ Headed message

-- "for each prefix .. 4, 14 (cut)": its length is above w, or else it runs past its part
abbrev pub PrefixFaults : Type 0
PrefixFaults =
    (w : ℕ) (part : List ℕ) (at : ℕ)
    → (w < len_at part at → fault_of (taken_at w part at) ≡ long_prefix)
    × (len_at part at ≤ w → length part < at + prefix_size (len_at part at) → fault_of (taken_at w part at) ≡ bad_message)
    × (len_at part at ≤ w → at + prefix_size (len_at part at) ≤ length part → fault_of (taken_at w part at) ≡ 0)

-- a part that begins at an offset is refused m at p of its own if and only if the prefix at p is its first at fault, and m its fault
abbrev pub PartRefused : Type 0
PartRefused =
    (w : ℕ) (part : List ℕ) (from m p : ℕ) → (m ≡ 0 → ⊥)
    → (part_check w part from ≡ refused m (from + p)) ↔ FirstPrefix w part m p

-- and accepted if and only if it is made of prefixes without a fault
abbrev pub PartDone : Type 0
PartDone =
    (w : ℕ) (part : List ℕ) (from : ℕ) → (part_check w part from ≡ accepted 0) ↔ ((n : ℕ) × WholePart w part n)

-- the first prefix at fault of a part that begins at an offset stands at place p of the message
abbrev pub FaultyAt : ℕ → List ℕ → ℕ → ℕ → ℕ → Type 0
FaultyAt w part from m p = (o : ℕ) × (p ≡ from + o) × FirstPrefix w part m o

-- a headed message is refused m at p if and only if the prefix at p is the first at fault, and m its fault: "for each prefix, the
-- withdrawn ones first, 4, 14 (cut)"
abbrev pub MessageRefused : Type 0
MessageRefused =
    (w : ℕ) (message : List ℕ) (m p : ℕ) → Headed message → (m ≡ 0 → ⊥)
    → (message_check w message ≡ refused m p)
    ↔ (FaultyAt w (withdrawn_part message) withdrawn_at m p
    ⊎ (((n : ℕ) × WholePart w (withdrawn_part message) n) × FaultyAt w (announced_part message) (announced_at message) m p))

-- accepted if and only if it is headed, and both parts are made of prefixes without a fault
abbrev pub MessageDone : Type 0
MessageDone =
    (w : ℕ) (message : List ℕ)
    → (message_check w message ≡ accepted 0)
    ↔ (Headed message × ((n : ℕ) × WholePart w (withdrawn_part message) n) × ((n : ℕ) × WholePart w (announced_part message) n))

-- and nothing else: every message is accepted, or refused 4 or 14
abbrev pub MessageNumbers : Type 0
MessageNumbers =
    (w : ℕ) (message : List ℕ)
    → (message_check w message ≡ accepted 0) ⊎ (((message_check w message).number ≡ long_prefix) ⊎ ((message_check w message).number ≡ bad_message))

-- spare bits: "in a file and in a message they are cleared", so 5 arises from no message
abbrev pub NeverSpare : Type 0
NeverSpare = (w : ℕ) (message : List ℕ) → (message_check w message).number ≡ spare_bits → ⊥

-- the prefixes of a part without a fault are those at its offsets, all of them and in order
abbrev pub PrefixesAre : Type 0
PrefixesAre =
    (w : ℕ) (part : List ℕ) (n : ℕ) → WholePart w part n → prefixes_in w part ≡ list_of (λ i. prefix_at w part (offset_of part i)) n 0

-- the table of "UPDATE messages", line by line: a message of a withdrawn part, path attributes and an announced part, each of any bytes
abbrev pub message_of : List ℕ → List ℕ → List ℕ → List ℕ
message_of withdrawn attributes announced =
    replicate marker_size ones ++ digits 2 (least_size + (length withdrawn + length attributes + length announced)) ++ (update_type ∷ [])
    ++ digits 2 (length withdrawn) ++ withdrawn ++ digits 2 (length attributes) ++ attributes ++ announced

-- its head is accepted, and its parts are found: the attributes "are passed over whatever they say"
abbrev pub PartsRead : Type 0
PartsRead =
    (withdrawn attributes announced : List ℕ) → least_size + (length withdrawn + length attributes + length announced) ≤ most_size
    → Headed (message_of withdrawn attributes announced)
    × (withdrawn_part (message_of withdrawn attributes announced) ≡ withdrawn)
    × (announced_part (message_of withdrawn attributes announced) ≡ announced)

-- "A list is written as one message that withdraws its prefixes, in list order, with no path attributes and nothing announced": it is
-- accepted, and so it reads
abbrev pub WrittenReads : Type 0
WrittenReads =
    (w : ℕ) (R : ℕ → Route) (n : ℕ) → w % 8 ≡ 0 → ValidList w R n → least_size + length (prefixes_of w R n) ≤ most_size
    → (message_check w (withdrawal_of w R n) ≡ accepted 0)
    × (withdrawn_in w (withdrawal_of w R n) ≡ list_of (λ i. prefix (R i).value (R i).len) n 0)
    × (announced_in w (withdrawal_of w R n) ≡ [])

-- the bytes of the message that withdraws the first n routes, one field after the other: a marker of ones, its own length, type 2, the
-- size of the prefixes, the prefixes in list order, and a total attribute length of zero, with which it ends
pub record Withdrawal (w : ℕ) (R : ℕ → Route) (n : ℕ) (message : List ℕ) : Type 0 where
  pub long : length message ≡ least_size + length (prefixes_of w R n)
  pub marked : Marked message
  pub sized : field_at message length_at ≡ length message
  pub typed : get_or message type_at 0 ≡ update_type
  pub withdrawn : withdrawn_size message ≡ length (prefixes_of w R n)
  pub each : (i : ℕ) → i < n
      → take (prefix_size (R i).len) (drop (withdrawn_at + length (prefixes_of w R i)) message) ≡ prefix_octets w (R i).value (R i).len
  pub last : drop (withdrawn_at + length (prefixes_of w R n)) message ≡ 0 ∷ 0 ∷ []

abbrev pub WrittenBytes : Type 0
WrittenBytes =
    (w : ℕ) (R : ℕ → Route) (n : ℕ) → least_size + length (prefixes_of w R n) ≤ most_size → Withdrawal w R n (withdrawal_of w R n)

-- the bytes that writing a list leaves, as many as it answers
abbrev pub left_by : ℕ → List ℕ → List ℕ → List ℕ
left_by w list lent = take (write_message w list lent).answer.count (write_message w list lent).lent

-- so what a call wrote withdraws just the list's prefixes in its order
abbrev pub ReadWritten : Type 0
ReadWritten =
    (w : ℕ) (list lent : List ℕ) → w % 8 ≡ 0 → Words w list → (write_message w list lent).answer.number ≡ 0
    → (message_check w (left_by w list lent) ≡ accepted 0)
    × (withdrawn_in w (left_by w list lent) ≡ list_of (λ i. prefix (route_at list i).value (route_at list i).len) (route_count list) 0)
    × (announced_in w (left_by w list lent) ≡ [])

-- "A call that is refused writes none of the lent memory"
abbrev pub RefusalWritesNothing : Type 0
RefusalWritesNothing =
    (w : ℕ) (list lent : List ℕ) → ((write_message w list lent).answer.number ≡ 0 → ⊥) → (write_message w list lent).lent ≡ lent

-- a message with nothing in it: the marker, 23 bytes, type 2, and two lengths of zero
abbrev pub empty_message : List ℕ
empty_message = replicate 16 255 ++ (0 ∷ 23 ∷ 2 ∷ 0 ∷ 0 ∷ 0 ∷ 0 ∷ [])

-- "A message of 23 bytes with nothing in it is accepted", and names no prefix; "The message of the empty list has 23 bytes", these
abbrev pub EmptyMessage : Type 0
EmptyMessage =
    (w : ℕ) (lent : List ℕ)
    → (message_check w empty_message ≡ accepted 0) × (withdrawn_in w empty_message ≡ []) × (announced_in w empty_message ≡ [])
    × (least_size ≤ length lent → write_message w [] lent ≡ outcome (accepted least_size) (over empty_message lent))
