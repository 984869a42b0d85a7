-- Defines what the calls with counts answer and leave: RULES, "Addresses per port" and "Order of the checks". Assumes nothing.
use Rattle.std.specs.Prelude.{cond, List, ℕ, eqb, leb, length, Result, Ok, Err}
use Rattle.promise.specs.Over.{Outcome, outcome, over}
use Rattle.refusals.specs.Refusals.{wrong_port, no_room, not_in_order, refused, accepted, keeping_at, number_of}
use Rattle.refusals.specs.declared.Refusal.{Refusal}
use Rattle.refusals.specs.declared.Answer.{Answer}
use Rattle.routes.specs.Check.{is_port, prefix_fault, route_fault}
use Rattle.table_rules.specs.Rows.{Layout}
use Rattle.table_rules.specs.Check.{is_good}
use Rattle.table_update.specs.Calls.{keeping}
use Rattle.table_update.specs.History.{announcing, withdrawing}
use Rattle.message_rules.specs.Check.{message_check}
use Rattle.message_calls.specs.History.{Event, single, message, outcome_on}
use Rattle.count_rules.specs.Tally.{ports, table_counts, differ}

-- what a counted update answers, and the two memories that it leaves
pub record Counted : Type 0 where
  pub answer : Answer
  pub rows : List ℕ
  pub counts : List ℕ

abbrev pub counted : Answer → List ℕ → List ℕ → Counted
counted answer rows counts = record { answer = answer; rows = rows; counts = counts }

-- what the first checks of an update of a table of n routes answer
abbrev pub passed : ℕ → Result Unit Refusal → Answer
passed n (Ok _) = accepted n
passed n (Err r) = keeping_at (number_of r.fault) r.place n

-- what the message itself, and then its port, is refused with
abbrev pub message_fault : ℕ → List ℕ → ℕ → ℕ → Answer
message_fault w bytes port n =
    cond (eqb (message_check w bytes).number 0)
    (cond (is_port port) (accepted n) (keeping wrong_port n))
    (keeping_at (message_check w bytes).number (message_check w bytes).place n)

-- what the arguments of an update are refused with, whatever the table: 4, 5 and 6, or 14, 4 and 6 of a message
abbrev pub fault_of : ℕ → ℕ → Event → Answer
fault_of w n (single (announcing q)) = keeping (route_fault w q 0) n
fault_of w n (single (withdrawing value len)) = keeping (prefix_fault w value len 0) n
fault_of w n (message bytes port) = message_fault w bytes port n

module _ (L : Layout (List ℕ)) (w : ℕ) where
  abbrev pub counts_of : List ℕ → ℕ → List ℕ
  counts_of words n = table_counts w (L.get words) n

  -- "a call that makes the counts afresh": "9 where fewer than 4,095 counts are lent, before all others", then 11
  unfoldable pub make_counts : List ℕ → ℕ → List ℕ → Outcome Answer
  make_counts words n counts =
      cond (leb ports (length counts))
      (cond (is_good w (L.room words) (L.get words) n)
      (outcome (accepted 0) (over (counts_of words n) counts))
      (outcome (refused not_in_order 0) counts))
      (outcome (refused no_room 0) counts)

  -- the first checks of every update: 9, what its arguments are refused with, and 11 "also where the lent counts are not those of the
  -- table"
  unfoldable pub first_check : Answer → List ℕ → ℕ → List ℕ → Answer
  first_check fault words n counts =
      cond (leb ports (length counts))
      (cond (eqb fault.number 0)
      (cond (is_good w (L.room words) (L.get words) n)
      (cond (differ counts (counts_of words n)) (keeping not_in_order n) (accepted n))
      (keeping not_in_order n))
      fault)
      (keeping no_room n)

  -- the counts of the table as an update leaves it, where that is accepted
  abbrev pub recounted : Outcome Answer → List ℕ → List ℕ
  recounted plain counts =
      cond (eqb plain.answer.number 0) (over (counts_of plain.lent plain.answer.count) counts) counts

  -- an update that was first checked: what it does to the rows without counts, and then the counts
  abbrev pub counted_by : Answer → Outcome Answer → List ℕ → List ℕ → Counted
  counted_by checked plain words counts =
      cond (eqb checked.number 0) (counted plain.answer plain.lent (recounted plain counts)) (counted checked words counts)

  -- "in step with every accepted announcement and withdrawal": a call or a message, with counts
  unfoldable pub counted_on : List ℕ → ℕ → List ℕ → Event → Counted
  counted_on words n counts e = counted_by (first_check (fault_of w n e) words n counts) (outcome_on L w words n e) words counts
