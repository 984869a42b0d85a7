use mathlib.Core.Path.{◌≡◌}
use Prim.Native.Nat.{◌+◌, ◌≤◌}
use lib.ListN.{length}
use Rattle.table_rows.specs.Words.{five_words}
use Rattle.message_calls.specs.Steps.{folded, add_one}
use Rattle.message_apply.specs.Needs.{table_as}
use Rattle.message_rules.specs.Left.{left}
use Rattle.message_rules.specs.Message.{prefixes_in}
use Rattle.message_apply.proofs.add_part.Given as goal

abbrev pub invariant-loop-p : goal.invariant-loop-p
invariant-loop-p l = record {
  is : folded (add_one five_words 32 l.port) (table_as l.rows l.n) (left l.p-iterator) ≡ folded (add_one five_words 32 l.port) (table_as l.initial.rows l.count) (prefixes_in 32 l.part);
  few : l.n + length (left l.p-iterator) ≤ l.count + length (prefixes_in 32 l.part);
}
