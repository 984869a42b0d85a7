-- Defines a history of updates with counts, each handed what the one before it left: RULES, "Addresses per port". Assumes nothing.
use Rattle.std.specs.Prelude.{List, [], ◌∷◌, ℕ}
use Rattle.table_rules.specs.Rows.{Layout}
use Rattle.table_update.specs.History.{Table}
use Rattle.message_calls.specs.History.{Event, EventFits}
use Rattle.count_rules.specs.Counted.{Counted, counted_on}

-- a table, and the counts beside it
pub record Book : Type 0 where
  pub table : Table
  pub counts : List ℕ

abbrev pub left_by : Counted → Book
left_by o = record { table = record { words = o.rows; count = o.answer.count }; counts = o.counts }

abbrev pub AllEventsFit : ℕ → List Event → Type 0
AllEventsFit w [] = Unit {0}
AllEventsFit w (e ∷ es) = EventFits w e × AllEventsFit w es

module _ (L : Layout (List ℕ)) (w : ℕ) where
  -- what an update answers and leaves
  abbrev pub counted_in : Book → Event → Counted
  counted_in b e = counted_on L w b.table.words b.table.count b.counts e

  unfoldable pub ran_counted : Book → List Event → Book
  ran_counted b [] = b
  ran_counted b (e ∷ es) = ran_counted (left_by (counted_in b e)) es
