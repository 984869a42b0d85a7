-- Defines a history of calls and messages on a table: demand 3, where an accepted message is its calls. Assumes nothing.
use Rattle.std.specs.Prelude.{Bool, cond, List, [], ◌∷◌, ◌++◌, ℕ, eqb}
use Rattle.promise.specs.Over.{Outcome}
use Rattle.bits.specs.Bits.{Bits, same}
use Rattle.refusals.specs.declared.Answer.{Answer}
use Rattle.octets.specs.Bytes.{Bytes}
use Rattle.table_rules.specs.Rows.{Layout}
use Rattle.table_update.specs.History.{Call, Table, outcome_of, call_prefix, call_port, Fits}
use Rattle.message_rules.specs.Message.{withdrawn_in, announced_in}
use Rattle.message_calls.specs.Named.{calls_for, has_bits}
use Rattle.message_calls.specs.Apply.{apply_into}

-- a call by itself, or a message and the port of what it announces
pub data Event : Type 0 where
  single : Call → Event
  message : List ℕ → ℕ → Event

-- the calls that a message stands for
abbrev pub calls_of : ℕ → List ℕ → ℕ → List Call
calls_of w bytes port = calls_for port (withdrawn_in w bytes) (announced_in w bytes)

-- what an event that is accepted leaves at a prefix, where its port was `before`
abbrev pub port_left : ℕ → Event → Bits → ℕ → ℕ
port_left w (single c) q before = cond (same q (call_prefix w c)) (call_port c) before
port_left w (message bytes port) q before =
    cond (has_bits w q (announced_in w bytes)) port (cond (has_bits w q (withdrawn_in w bytes)) 0 before)

-- every value is an address, and every byte a byte
abbrev pub EventFits : ℕ → Event → Type 0
EventFits w (single c) = Fits w c
EventFits w (message bytes port) = Bytes bytes

module _ (L : Layout (List ℕ)) (w : ℕ) where
  -- what an event does to a table of n routes
  abbrev pub outcome_on : List ℕ → ℕ → Event → Outcome Answer
  outcome_on words n (single c) = outcome_of L w words n c
  outcome_on words n (message bytes port) = apply_into L w bytes port words n

  abbrev pub after_event : Table → Event → Table
  after_event t e = record { words = (outcome_on t.words t.count e).lent; count = (outcome_on t.words t.count e).answer.count }

  abbrev pub is_taken : Table → Event → Bool
  is_taken t e = eqb (outcome_on t.words t.count e).answer.number 0

  -- "for demand 3's history .. an accepted one is its remaining withdrawals, then its announcements": a refused one is no call
  abbrev pub calls_in : Table → Event → List Call
  calls_in t (single c) = c ∷ []
  calls_in t (message bytes port) = cond (is_taken t (message bytes port)) (calls_of w bytes port) []

  -- one event after the other, each handed what the one before it left
  unfoldable pub ran_events : Table → List Event → Table
  ran_events t [] = t
  ran_events t (e ∷ es) = ran_events (after_event t e) es

  unfoldable pub flattened : Table → List Event → List Call
  flattened t [] = []
  flattened t (e ∷ es) = calls_in t e ++ flattened (after_event t e) es
