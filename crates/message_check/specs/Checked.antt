-- Defines what the check of a message answers beside its refusal: where the parts of an accepted message lie. Assumes nothing.
use Rattle.std.specs.Prelude.{◌≡◌, cond, List, ℕ, ◌^◌, ◌<◌, eqb, Result, Ok, Err}
use Rattle.refusals.specs.declared.Answer.{Answer}
use Rattle.refusals.specs.declared.Refusal.{Refusal}
use Rattle.refusals.specs.Refusals.{number_of, refused, accepted}
use Rattle.message_rules.specs.Message.{field_at, attributes_size_at, announced_at}
use Rattle.message_rules.specs.Check.{message_check}
use Rattle.message_check.specs.declared.Parts.{Parts}

-- the answer, and where the withdrawn part ends and the announced one starts
pub record Checked : Type 0 where
  pub answer : Answer
  pub end : ℕ
  pub start : ℕ

-- a refused message has no parts
abbrev pub refused_by : Answer → Checked
refused_by answer = record { answer = answer; end = 0; start = 0 }

-- what the check returns
abbrev pub checked_as : Result Parts Refusal → Checked
checked_as (Ok parts) = record { answer = accepted 0; end = parts.end; start = parts.start }
checked_as (Err r) = refused_by (refused (number_of r.fault) r.place)

-- the withdrawn part ends where the length of the attributes stands
unfoldable pub checked_of : ℕ → List ℕ → Checked
checked_of w message =
    cond (eqb (message_check w message).number 0)
    (record { answer = message_check w message; end = attributes_size_at message; start = announced_at message })
    (refused_by (message_check w message))

-- r is a field of two bytes, with the bound that callers want
pub record Field (message : List ℕ) (at r : ℕ) : Type 0 where
  pub is : r ≡ field_at message at
  pub small : r < 2 ^ 16
