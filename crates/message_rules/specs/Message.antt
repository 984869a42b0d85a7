-- Defines the fields and the two parts of an UPDATE message, and the prefixes of a part: RULES, "UPDATE messages". Assumes nothing.
use Rattle.std.specs.Prelude.{Bool, not, List, [], ◌∷◌, ℕ, zero, suc, ◌+◌, ◌-◌, eqb, length, get_or, take, drop}
use Rattle.bits.specs.Prefix.{Valid}
use Rattle.lists.specs.Below.{some_below}
use Rattle.prefix.specs.declared.Prefix.{Prefix}
use Rattle.octets.specs.Bytes.{number}
use Rattle.octets.specs.Octets.{prefix_size, len_at}
use Rattle.octets.specs.Taken.{taken_at}
use Rattle.octets.specs.Taken.{Taken}
use Rattle.std.specs.Prelude.{Ok, Err}
use Rattle.octets.specs.declared.NoPrefix.TheVariants.{Long, Cut}

-- "marker, length, type, withdrawn routes, path attributes passed over by their total length, then the announced prefixes"
abbrev pub marker_size : ℕ
marker_size = 16

abbrev pub length_at : ℕ
length_at = 16

abbrev pub type_at : ℕ
type_at = 18

abbrev pub withdrawn_size_at : ℕ
withdrawn_size_at = 19

abbrev pub withdrawn_at : ℕ
withdrawn_at = 21

-- "a length below 23, above 4,096"
abbrev pub least_size : ℕ
least_size = 23

abbrev pub most_size : ℕ
most_size = 4096

-- "a type not 2"
abbrev pub update_type : ℕ
update_type = 2

-- a byte of ones
abbrev pub ones : ℕ
ones = 255

-- "a marker not all ones"
abbrev pub unmarked : List ℕ → Bool
unmarked message = some_below (λ i. not (eqb (get_or message i 0) ones)) marker_size

-- a field of two bytes, big-endian
abbrev pub field_at : List ℕ → ℕ → ℕ
field_at message at = number (take 2 (drop at message))

-- how many bytes the withdrawn part has, and where the length of the attributes stands after it
abbrev pub withdrawn_size : List ℕ → ℕ
withdrawn_size message = field_at message withdrawn_size_at

abbrev pub attributes_size_at : List ℕ → ℕ
attributes_size_at message = withdrawn_at + withdrawn_size message

-- the announced part begins where the attributes end
abbrev pub announced_at : List ℕ → ℕ
announced_at message = attributes_size_at message + 2 + field_at message (attributes_size_at message)

abbrev pub withdrawn_part : List ℕ → List ℕ
withdrawn_part message = take (withdrawn_size message) (drop withdrawn_at message)

abbrev pub announced_part : List ℕ → List ℕ
announced_part message = drop (announced_at message) message

-- a prefix that stands whole, and those after it
abbrev pub ahead : Taken → List Prefix → List Prefix
ahead (Ok p) ps = p ∷ ps
ahead (Err Long) ps = []
ahead (Err Cut) ps = []

-- the prefixes of a part from an offset on, to the first that does not stand whole; k at most
unfoldable pub prefixes_from : ℕ → List ℕ → ℕ → ℕ → List Prefix
prefixes_from w part zero at = []
prefixes_from w part (suc k) at = ahead (taken_at w part at) (prefixes_from w part k (at + prefix_size (len_at part at)))

-- each takes a byte or more
abbrev pub prefixes_in : ℕ → List ℕ → List Prefix
prefixes_in w part = prefixes_from w part (length part) 0

-- those that are left from an offset on
abbrev pub prefixes_after : ℕ → List ℕ → ℕ → List Prefix
prefixes_after w part at = prefixes_from w part (length part - at) at

abbrev pub withdrawn_in : ℕ → List ℕ → List Prefix
withdrawn_in w message = prefixes_in w (withdrawn_part message)

abbrev pub announced_in : ℕ → List ℕ → List Prefix
announced_in w message = prefixes_in w (announced_part message)

-- every prefix of a list is valid
unfoldable pub AllValid : ℕ → List Prefix → Type 0
AllValid w [] = Unit {0}
AllValid w (p ∷ ps) = Valid w p.value p.len × AllValid w ps
