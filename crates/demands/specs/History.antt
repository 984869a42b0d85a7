-- Defines a history of calls on a boundary: demand 3, "From an empty table, after any sequence of announcements and withdrawals, some
-- refused", with messages among them. What was accepted is what the calls themselves returned. Assumes nothing.
use Rattle.std.specs.Prelude.{◌≡◌, cond, List, [], ◌∷◌, ℕ, eqb}
use Rattle.bits.specs.Bits.{Bits}
use Rattle.trie.specs.Routes.{Routes}
use Rattle.table_update.specs.History.{Table}
use Rattle.message_calls.specs.History.{Event, port_left, EventFits}
use Rattle.maftehon.specs.Reply.{Booked}
use Rattle.demands.specs.Boundary.{Boundary, result}

-- a table that nothing has been announced to, in any rows
abbrev pub empty_table : List ℕ → Table
empty_table rows = record { words = rows; count = 0 }

-- an update, the counts that it was lent, and the outcome that it had
pub record Step : Type 0 where
  pub call : Event
  pub lent : List ℕ
  pub outcome : Booked

-- the rows and n as last returned
abbrev pub left : Step → Table
left s = record { words = s.outcome.rows; count = result s.outcome.reply }

-- each update is handed the rows and n that the one before it left, and whatever counts
abbrev pub Happened : Boundary → Table → List Step → Type 0
Happened B t [] = Unit {0}
Happened B t (s ∷ steps) = EventFits 32 s.call × B.update t.words t.count s.lent s.call s.outcome × Happened B (left s) steps

-- each is lent the counts as last left
abbrev pub LentOn : List ℕ → List Step → Type 0
LentOn counts [] = Unit {0}
LentOn counts (s ∷ steps) = (s.lent ≡ counts) × LentOn s.outcome.counts steps

abbrev pub counts_at_end : List ℕ → List Step → List ℕ
counts_at_end counts [] = counts
counts_at_end counts (s ∷ steps) = counts_at_end s.outcome.counts steps

abbrev pub at_end : Table → List Step → Table
at_end t [] = t
at_end t (s ∷ steps) = at_end (left s) steps

-- the port of a prefix after the calls, where it was `port` before them
abbrev pub port_since : List Step → Bits → ℕ → ℕ
port_since [] q port = port
port_since (s ∷ steps) q port =
    port_since steps q (cond (eqb s.outcome.reply.number 0) (port_left 32 s.call q port) port)

-- the set of routes held: "for each prefix those of its last accepted call if that was an announcement"; an accepted message announces
-- its announced prefixes, and withdraws its other withdrawn ones
abbrev pub held_by : List Step → Routes
held_by steps q = port_since steps q 0
