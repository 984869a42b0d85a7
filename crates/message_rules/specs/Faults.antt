-- Defines what a head and a part without a fault are, and which prefix of a part is the first at fault: RULES, "Order of the checks".
-- Assumes nothing.
use Rattle.std.specs.Prelude.{◌≡◌, List, ℕ, zero, suc, ◌+◌, ◌≤◌, ◌<◌, length, get_or}
use Rattle.octets.specs.Octets.{prefix_size, len_at}
use Rattle.octets.specs.Taken.{taken_at}
use Rattle.message_rules.specs.Message.{marker_size, length_at, type_at, least_size, most_size, update_type, ones, field_at, attributes_size_at, announced_at}
use Rattle.message_rules.specs.Check.{fault_of}

-- "the marker: all ones"
abbrev pub Marked : List ℕ → Type 0
Marked message = (i : ℕ) → i < marker_size → get_or message i 0 ≡ ones

-- "its length is below 23, above 4,096 or not that of the bytes lent": none of these
pub record RightLength (message : List ℕ) : Type 0 where
  pub least : least_size ≤ field_at message length_at
  pub most : field_at message length_at ≤ most_size
  pub lent : field_at message length_at ≡ length message

-- a head that nothing is wrong with
pub record Headed (message : List ℕ) : Type 0 where
  pub long : least_size ≤ length message
  pub marked : Marked message
  pub sized : RightLength message
  pub typed : get_or message type_at 0 ≡ update_type
  pub withdrawn : attributes_size_at message + 2 ≤ length message
  pub announced : announced_at message ≤ length message

-- the offset of prefix i in a part, each after the bytes of the one before
unfoldable pub offset_of : List ℕ → ℕ → ℕ
offset_of part zero = 0
offset_of part (suc i) = offset_of part i + prefix_size (len_at part (offset_of part i))

-- the first n prefixes of a part have no fault
abbrev pub NoneFaulty : ℕ → List ℕ → ℕ → Type 0
NoneFaulty w part n = (j : ℕ) → j < n → fault_of (taken_at w part (offset_of part j)) ≡ 0

-- the prefix at offset p of a part has fault m, and none before it has one
pub record FirstPrefix (w : ℕ) (part : List ℕ) (m p : ℕ) : Type 0 where
  pub number : ℕ
  pub place : offset_of part number ≡ p
  pub within : p < length part
  pub here : fault_of (taken_at w part p) ≡ m
  pub none : NoneFaulty w part number

-- a part of n prefixes: none of them has a fault, and the last one ends where the part does
pub record WholePart (w : ℕ) (part : List ℕ) (n : ℕ) : Type 0 where
  pub none : NoneFaulty w part n
  pub end : offset_of part n ≡ length part
