-- States what this layer is there for: RULES, "UPDATE messages", and demand 3 with messages. Proofs are in proofs/. Assumes nothing.
use Rattle.std.specs.Prelude.{◌≡◌, true, cond, ◌↔◌, List, ℕ, ◌<◌}
use Rattle.promise.specs.Over.{Outcome}
use Rattle.trie.specs.Routes.{Routes}
use Rattle.refusals.specs.Refusals.{no_room}
use Rattle.refusals.specs.declared.Answer.{Answer}
use Rattle.routes.specs.Check.{is_port}
use Rattle.octets.specs.Bytes.{Bytes}
use Rattle.table_rules.specs.Rows.{Layout}
use Rattle.table_rules.specs.Holds.{GoodFor}
use Rattle.table_update.specs.History.{Table, ran, AllAccepted}
use Rattle.message_rules.specs.Message.{withdrawn_in, announced_in}
use Rattle.message_rules.specs.Check.{message_check}
use Rattle.message_calls.specs.Named.{remaining, withdrawals, announcements, final_set, Size}
use Rattle.message_calls.specs.Apply.{apply_into}
use Rattle.message_calls.specs.History.{Event, message, calls_of, port_left, EventFits, after_event, is_taken, ran_events, flattened}

-- "for the rows, an accepted one is its remaining withdrawals, then its announcements, in message order": what it leaves is what those
-- calls leave one by one, and no announcement among them is refused
pub record IsItsCalls (L : Layout (List ℕ)) (w : ℕ) (bytes : List ℕ) (port : ℕ) (t : Table) : Type 0 where
  pub left : after_event L w t (message bytes port) ≡ ran L w t (calls_of w bytes port)
  pub each :
      AllAccepted L w (ran L w t (withdrawals (remaining (withdrawn_in w bytes) (announced_in w bytes)))) (announcements port (announced_in w bytes))

abbrev pub AppliedIsCalls : Layout (List ℕ) → ℕ → Type 0
AppliedIsCalls L w =
    (bytes : List ℕ) (port : ℕ) (t : Table) → Bytes bytes → (apply_into L w bytes port t.words t.count).answer.number ≡ 0
    → IsItsCalls L w bytes port t

-- the set afterwards, said directly: a table in good order for S is then in good order for S with the announced prefixes at the port and
-- without the other withdrawn ones
abbrev pub AppliedHolds : Layout (List ℕ) → ℕ → Type 0
AppliedHolds L w =
    (bytes : List ℕ) (port : ℕ) (words : List ℕ) (n : ℕ) (S : Routes) → Bytes bytes → GoodFor w (L.room words) (L.get words) n S
    → let o : Outcome Answer = apply_into L w bytes port words n in
    o.answer.number ≡ 0
    → GoodFor w (L.room o.lent) (L.get o.lent) o.answer.count (final_set w port (withdrawn_in w bytes) (announced_in w bytes) S)

-- "whole or not at all": refused, it leaves every word and n
abbrev pub AppliedWhole : Layout (List ℕ) → ℕ → Type 0
AppliedWhole L w =
    (bytes : List ℕ) (port : ℕ) (words : List ℕ) (n : ℕ)
    → let o : Outcome Answer = apply_into L w bytes port words n in
    (o.answer.number ≡ 0 → ⊥) → (o.lent ≡ words) × (o.answer.count ≡ n)

-- "9, the last exactly if the final set exceeds the capacity": it has a size m, and m alone, and 9 is given if and only if m is above
-- the capacity
pub record FullAt (L : Layout (List ℕ)) (w : ℕ) (bytes : List ℕ) (port : ℕ) (words : List ℕ) (n : ℕ) (S : Routes) (m : ℕ) : Type 0 where
  pub size : Size (final_set w port (withdrawn_in w bytes) (announced_in w bytes) S) m
  pub one : (k : ℕ) → Size (final_set w port (withdrawn_in w bytes) (announced_in w bytes) S) k → k ≡ m
  pub exactly : ((apply_into L w bytes port words n).answer.number ≡ no_room) ↔ (L.room words < m)

abbrev pub FullExactly : Layout (List ℕ) → ℕ → Type 0
FullExactly L w =
    (bytes : List ℕ) (port : ℕ) (words : List ℕ) (n : ℕ) (S : Routes) → Bytes bytes → (message_check w bytes).number ≡ 0
    → is_port port ≡ true → GoodFor w (L.room words) (L.get words) n S → (m : ℕ) × FullAt L w bytes port words n S m

-- DEMAND 3 with messages: a history of calls and messages is the history of the calls that they stand for
abbrev pub MessageHistoryIs : Layout (List ℕ) → ℕ → Type 0
MessageHistoryIs L w = (t : Table) (events : List Event) → ran_events L w t events ≡ ran L w t (flattened L w t events)

-- and each event that is accepted leaves at each prefix the port that it says; a refused one changes nothing
abbrev pub EventIs : Layout (List ℕ) → ℕ → Type 0
EventIs L w =
    (t : Table) (S : Routes) (e : Event) → EventFits w e → GoodFor w (L.room t.words) (L.get t.words) t.count S
    → let u : Table = after_event L w t e in
    GoodFor w (L.room u.words) (L.get u.words) u.count (λ q. cond (is_taken L w t e) (port_left w e q (S q)) (S q))
