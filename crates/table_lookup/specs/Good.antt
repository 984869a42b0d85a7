-- Defines the check of good order as a call answers it: RULES, "Refusals".
-- Assumes nothing.
use Rattle.std.specs.Prelude.{cond, ℕ}
use Rattle.refusals.specs.Refusals.{not_in_order, refused, accepted}
use Rattle.refusals.specs.declared.Answer.{Answer}
use Rattle.table_rules.specs.Rows.{Mem}
use Rattle.table_rules.specs.Check.{is_good}

abbrev pub table_check : ℕ → ℕ → Mem → ℕ → Answer
table_check w capacity M n = cond (is_good w capacity M n) (accepted 0) (refused not_in_order 0)
