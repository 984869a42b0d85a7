-- Defines the checks of a message: RULES, "Order of the checks". Assumes nothing.
use Rattle.std.specs.Prelude.{Bool, not, cond, ◌||◌, List, ℕ, zero, suc, ◌+◌, ◌≤◌, eqb, ltb, length, get_or}
use Rattle.refusals.specs.Refusals.{long_prefix, bad_message, refused, accepted, and_then}
use Rattle.refusals.specs.declared.Answer.{Answer}
use Rattle.octets.specs.Octets.{prefix_size, len_at}
use Rattle.octets.specs.Taken.{taken_at}
use Rattle.octets.specs.Taken.{Taken}
use Rattle.std.specs.Prelude.{Ok, Err}
use Rattle.octets.specs.declared.NoPrefix.TheVariants.{Long, Cut}
use Rattle.message_rules.specs.Message.{length_at, type_at, withdrawn_size_at, withdrawn_at, least_size, most_size, update_type, unmarked, field_at, attributes_size_at, announced_at, withdrawn_part, announced_part}

-- "a length below 23, above 4,096 or not the bytes lent"
abbrev pub wrong_length : List ℕ → Bool
wrong_length message =
    ltb (field_at message length_at) least_size || ltb most_size (field_at message length_at) || not (eqb (field_at message length_at) (length message))

-- "an inner length past the end (the withdrawn one also where it leaves under two bytes after its part)"
unfoldable pub inner_check : List ℕ → Answer
inner_check message =
    cond (ltb (length message) (attributes_size_at message + 2)) (refused bad_message withdrawn_size_at)
    (cond (ltb (length message) (announced_at message)) (refused bad_message (attributes_size_at message)) (accepted 0))

-- "14 at 0 for under 23 bytes lent, then at the field's offset for a marker not all ones, a length .., a type not 2, or an inner
-- length"
unfoldable pub head_check : List ℕ → Answer
head_check message =
    cond (ltb (length message) least_size) (refused bad_message 0)
    (cond (unmarked message) (refused bad_message 0)
    (cond (wrong_length message) (refused bad_message length_at)
    (cond (eqb (get_or message type_at 0) update_type) (inner_check message) (refused bad_message type_at))))

-- what a head that is accepted says of the bytes: how many there are, and that both parts lie within them
pub record Fits (message : List ℕ) : Type 0 where
  pub least : least_size ≤ length message
  pub most : length message ≤ most_size
  pub withdrawn : attributes_size_at message + 2 ≤ length message
  pub announced : announced_at message ≤ length message

-- "per prefix .. 4, or 14 where it runs past its part"
abbrev pub fault_of : Taken → ℕ
fault_of (Ok p) = 0
fault_of (Err Long) = long_prefix
fault_of (Err Cut) = bad_message

-- the first prefix of a part that is at fault from an offset on, where the part itself begins at `from`; k are left at most
unfoldable pub part_from : ℕ → List ℕ → ℕ → ℕ → ℕ → Answer
part_from w part from zero at = accepted 0
part_from w part from (suc k) at =
    cond (ltb at (length part))
    (cond (eqb (fault_of (taken_at w part at)) 0)
    (part_from w part from k (at + prefix_size (len_at part at)))
    (refused (fault_of (taken_at w part at)) (from + at)))
    (accepted 0)

abbrev pub part_check : ℕ → List ℕ → ℕ → Answer
part_check w part from = part_from w part from (length part) 0

-- the head, then each withdrawn prefix, then each announced one
unfoldable pub message_check : ℕ → List ℕ → Answer
message_check w message =
    and_then (head_check message)
    (and_then (part_check w (withdrawn_part message) withdrawn_at) (part_check w (announced_part message) (announced_at message)))
