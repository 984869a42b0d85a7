-- Defines a history of calls on a table: demand 3, "after any sequence of announcements and withdrawals, some refused". Assumes nothing.
use Rattle.std.specs.Prelude.{◌≡◌, Bool, true, cond, List, [], ◌∷◌, ℕ, ◌^◌, ◌<◌, eqb}
use Rattle.promise.specs.Over.{Outcome}
use Rattle.lists.specs.Numbered.{list_of}
use Rattle.bits.specs.Bits.{Bits, prefix_bits, same}
use Rattle.refusals.specs.declared.Answer.{Answer}
use Rattle.routes.specs.declared.Route.{Route}
use Rattle.table_rules.specs.Rows.{Layout}
use Rattle.table_update.specs.Calls.{announce_into, withdraw_into}

pub data Call : Type 0 where
  announcing : Route → Call
  withdrawing : ℕ → ℕ → Call

-- what a call does to a table of n routes
abbrev pub outcome_of : Layout (List ℕ) → ℕ → List ℕ → ℕ → Call → Outcome Answer
outcome_of L w words n (announcing q) = announce_into L w words n q
outcome_of L w words n (withdrawing value len) = withdraw_into L w words n value len

-- the rows and the count as last returned
pub record Table : Type 0 where
  pub words : List ℕ
  pub count : ℕ

-- one call after the other, each handed what the one before it left
abbrev pub after : Layout (List ℕ) → ℕ → Table → Call → Table
after L w t c = record { words = (outcome_of L w t.words t.count c).lent; count = (outcome_of L w t.words t.count c).answer.count }

abbrev pub is_accepted : Layout (List ℕ) → ℕ → Table → Call → Bool
is_accepted L w t c = eqb (outcome_of L w t.words t.count c).answer.number 0

unfoldable pub ran : Layout (List ℕ) → ℕ → Table → List Call → Table
ran L w t [] = t
ran L w t (c ∷ cs) = ran L w (after L w t c) cs

-- the prefix that a call is about, and the port that it leaves there: 0 after a withdrawal
abbrev pub call_prefix : ℕ → Call → Bits
call_prefix w (announcing q) = prefix_bits w q.value q.len
call_prefix w (withdrawing value len) = prefix_bits w value len

abbrev pub call_port : Call → ℕ
call_port (announcing q) = q.port
call_port (withdrawing value len) = 0

-- "for each prefix those of its last accepted call if that was an announcement": the port of a prefix after the calls, where it
-- was `port` before them
unfoldable pub port_after : Layout (List ℕ) → ℕ → Table → List Call → Bits → ℕ → ℕ
port_after L w t [] q port = port
port_after L w t (c ∷ cs) q port =
    port_after L w (after L w t c) cs q (cond (is_accepted L w t c) (cond (same q (call_prefix w c)) (call_port c) port) port)

-- every value of a call is an address
abbrev pub Fits : ℕ → Call → Type 0
Fits w (announcing q) = q.value < 2 ^ w
Fits w (withdrawing value len) = value < 2 ^ w

-- every call of a list fits
abbrev pub AllFit : ℕ → List Call → Type 0
AllFit w [] = Unit {0}
AllFit w (c ∷ cs) = Fits w c × AllFit w cs

-- every call of a list is accepted
abbrev pub AllAccepted : Layout (List ℕ) → ℕ → Table → List Call → Type 0
AllAccepted L w t [] = Unit {0}
AllAccepted L w t (c ∷ cs) = (is_accepted L w t c ≡ true) × AllAccepted L w (after L w t c) cs

-- "announcing its routes in list order": a call for each of the first n routes
abbrev pub announcements : (ℕ → Route) → ℕ → List Call
announcements R n = list_of (λ i. announcing (R i)) n 0
