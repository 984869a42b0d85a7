-- Defines the message that withdraws a list, and what writing one answers and leaves: RULES, "UPDATE messages" and "Order of the checks".
-- Assumes nothing.
use Rattle.std.specs.Prelude.{cond, ◌&&◌, List, [], ◌∷◌, ◌++◌, ℕ, ◌+◌, eqb, leb, length, replicate}
use Rattle.promise.specs.Over.{over, Outcome, outcome}
use Rattle.lists.specs.Numbered.{in_order}
use Rattle.refusals.specs.Refusals.{no_room, refused, accepted}
use Rattle.refusals.specs.declared.Answer.{Answer}
use Rattle.routes.specs.Routes.{route_at, route_count}
use Rattle.routes.specs.Check.{list_check}
use Rattle.routes.specs.declared.Route.{Route}
use Rattle.octets.specs.Bytes.{digits}
use Rattle.octets.specs.Octets.{prefix_octets}
use Rattle.message_rules.specs.Message.{marker_size, least_size, most_size, update_type, ones}

-- the prefixes of the first n routes, in list order
abbrev pub prefixes_of : ℕ → (ℕ → Route) → ℕ → List ℕ
prefixes_of w R n = in_order (λ r. prefix_octets w r.value r.len) R n

-- the marker, the length, the type and the length of the withdrawn part
abbrev pub head_of : ℕ → List ℕ
head_of size = replicate marker_size ones ++ digits 2 (least_size + size) ++ (update_type ∷ []) ++ digits 2 size

-- "one message that withdraws a list; the total attribute length is then zero", and nothing is announced
abbrev pub withdrawal_of : ℕ → (ℕ → Route) → ℕ → List ℕ
withdrawal_of w R n = head_of (length (prefixes_of w R n)) ++ prefixes_of w R n ++ digits 2 0

-- "the written message 4,096 bytes or the lent room"; "(the writer: the list's own, then 9)"
unfoldable pub write_message : ℕ → List ℕ → List ℕ → Outcome Answer
write_message w list lent =
    let message : List ℕ = withdrawal_of w (route_at list) (route_count list) in
    cond (eqb (list_check w list).number 0)
    (cond (leb (length message) most_size && leb (length message) (length lent))
    (outcome (accepted (length message)) (over message lent))
    (outcome (refused no_room 0) lent))
    (outcome (list_check w list) lent)
