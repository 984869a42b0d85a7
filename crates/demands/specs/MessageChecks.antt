-- Defines the checks of the calls on UPDATE messages, in their order: RULES, "UPDATE messages" and "Order of the checks". Assumes nothing.
use Rattle.std.specs.Prelude.{◌≡◌, ◌⊎◌, List, ℕ, zero, suc, ◌+◌, ◌<◌, length, get_or}
use Rattle.trie.specs.Routes.{Routes}
use Rattle.refusals.specs.Refusals.{long_prefix, no_room, bad_message}
use Rattle.routes.specs.Routes.{route_at, route_count}
use Rattle.octets.specs.Octets.{prefix_size, len_at}
use Rattle.table_rows.specs.Words.{capacity, row_at}
use Rattle.table_rules.specs.Holds.{GoodFor}
use Rattle.message_rules.specs.Message.{marker_size, length_at, type_at, withdrawn_size_at, withdrawn_at, least_size, most_size, update_type, ones, field_at, attributes_size_at, announced_at, withdrawn_part, announced_part, withdrawn_in, announced_in}
use Rattle.message_rules.specs.Written.{withdrawal_of}
use Rattle.message_calls.specs.Named.{final_set, Size}
use Rattle.demands.specs.Lamp.{Verdict, done, whether, refuse}
use Rattle.demands.specs.Checks.{list_checks}

-- "a marker not all ones"
abbrev pub Unmarked : List ℕ → Type 0
Unmarked message = (i : ℕ) × (i < marker_size) × (get_or message i 0 ≡ ones → ⊥)

-- "a length below 23, above 4,096 or not the bytes lent"
abbrev pub WrongLength : List ℕ → Type 0
WrongLength message =
    ((field_at message length_at < least_size) ⊎ (most_size < field_at message length_at)) ⊎ (field_at message length_at ≡ length message → ⊥)

-- "per prefix, at its offset, 4, or 14 where it runs past its part": from an offset on, at most k, as long as bytes are left
abbrev pub each_prefix : ℕ → List ℕ → ℕ → ℕ → ℕ → Verdict → Verdict
each_prefix w part from zero at rest = rest
each_prefix w part from (suc k) at rest =
    whether (at < length part)
    (refuse long_prefix (from + at) (w < len_at part at)
    (refuse bad_message (from + at) (length part < at + prefix_size (len_at part at)) (each_prefix w part from k (at + prefix_size (len_at part at)) rest)))
    rest

-- the head, then the withdrawn prefixes, then the announced ones
abbrev pub message_checks : ℕ → List ℕ → Verdict → Verdict
message_checks w message rest =
    refuse bad_message 0 (length message < least_size)
    (refuse bad_message 0 (Unmarked message)
    (refuse bad_message length_at (WrongLength message)
    (refuse bad_message type_at (get_or message type_at 0 ≡ update_type → ⊥)
    (refuse bad_message withdrawn_size_at (length message < attributes_size_at message + 2)
    (refuse bad_message (attributes_size_at message) (length message < announced_at message)
    (each_prefix w (withdrawn_part message) withdrawn_at (length (withdrawn_part message)) 0
    (each_prefix w (announced_part message) (announced_at message) (length (announced_part message)) 0 rest)))))))

-- "the final set exceeds the capacity": it has more prefixes than that
abbrev pub TooMany : ℕ → List ℕ → ℕ → List ℕ → ℕ → Type 0
TooMany w message port rows n =
    (S : Routes) → GoodFor w (capacity rows) (row_at rows) n S → (m : ℕ) → Size (final_set w port (withdrawn_in w message) (announced_in w message) S) m
    → capacity rows < m

-- "(the writer: the list's own, then 9)": "the written message 4,096 bytes or the lent room"
abbrev pub withdrawal_checks : ℕ → List ℕ → List ℕ → Verdict
withdrawal_checks w list lent =
    let size : ℕ = length (withdrawal_of w (route_at list) (route_count list)) in
    list_checks w list (refuse no_room 0 ((most_size < size) ⊎ (length lent < size)) done)
