-- Defines what applying a message to a table answers and leaves: RULES, "UPDATE messages" and "Order of the checks". Assumes nothing.
use Rattle.std.specs.Prelude.{cond, List, ℕ, eqb, leb}
use Rattle.promise.specs.Over.{Outcome, outcome}
use Rattle.prefix.specs.declared.Prefix.{Prefix}
use Rattle.refusals.specs.Refusals.{wrong_port, no_room, not_in_order, accepted, keeping_at}
use Rattle.refusals.specs.declared.Answer.{Answer}
use Rattle.routes.specs.Check.{is_port}
use Rattle.table_rules.specs.Rows.{Layout}
use Rattle.table_rules.specs.Check.{is_good}
use Rattle.table_update.specs.Calls.{leaves}
use Rattle.table_update.specs.History.{Table, ran}
use Rattle.message_rules.specs.Message.{withdrawn_in, announced_in}
use Rattle.message_rules.specs.Check.{message_check}
use Rattle.message_calls.specs.Named.{calls_for, final_count}

-- the rows and the count that calls leave, as an answer
abbrev pub done_as : Table → Outcome Answer
done_as t = outcome (accepted t.count) t.words

-- "9, the last exactly if the final set exceeds the capacity": withdrawn and announced prefixes on a table in good order
unfoldable pub applied_to : Layout (List ℕ) → ℕ → ℕ → List Prefix → List Prefix → List ℕ → ℕ → Outcome Answer
applied_to L w port gone come words n =
    cond (leb (final_count w (L.get words) n gone come) (L.room words))
    (done_as (ran L w (record { words = words; count = n }) (calls_for port gone come)))
    (leaves no_room n words)

-- "The message is applied whole or not at all": its checks, "then, at 0, 6, 11, and 9"
unfoldable pub apply_into : Layout (List ℕ) → ℕ → List ℕ → ℕ → List ℕ → ℕ → Outcome Answer
apply_into L w message port words n =
    cond (eqb (message_check w message).number 0)
    (cond (is_port port)
    (cond (is_good w (L.room words) (L.get words) n)
    (applied_to L w port (withdrawn_in w message) (announced_in w message) words n)
    (leaves not_in_order n words))
    (leaves wrong_port n words))
    (outcome (keeping_at (message_check w message).number (message_check w message).place n) words)
