-- What the check's answer tells of the table: done, it is in good order; refused, it is not, and the refusal is 11 at place 0.
-- Assumes nothing.
use mathlib.Core.Path.{◌≡◌, refl, ap}
use mathlib.Core.Bool.{Bool, true, false, cond}
use Prim.Native.Nat.{ℕ}
use Rattle.refusals.proofs.Numbers.{number_ne0}
use Rattle.refusals.specs.Refusals.{number_of, not_in_order, refused, accepted}
use Rattle.refusals.specs.declared.Fault.{Fault}
use Rattle.refusals.specs.declared.Answer.{Answer}
use Rattle.table_rules.specs.Rows.{Mem}
use Rattle.table_rules.specs.Check.{is_good}
use Rattle.table_lookup.specs.Good.{table_check}

abbrev told : Bool → Answer
told b = cond b (accepted 0) (refused not_in_order 0)

-- of a table that the check refuses
pub record Wrong (w capacity : ℕ) (M : Mem) (n number place : ℕ) : Type 0 where
  pub wrong : is_good w capacity M n ≡ false
  pub eleven : number ≡ not_in_order
  pub at_zero : place ≡ 0

module _ (w capacity : ℕ) (M : Mem) (n : ℕ) where
  pub checked_good : accepted 0 ≡ table_check w capacity M n → is_good w capacity M n ≡ true
  checked_good e = go (is_good w capacity M n) e
    where
      go : (b : Bool) → accepted 0 ≡ told b → b ≡ true
      go true e = refl
      go false e = let n : 0 ≡ not_in_order = ap (λ (a : Answer). a.number) e in cc

  pub checked_wrong : (fault : Fault) (place : ℕ) → refused (number_of fault) place ≡ table_check w capacity M n
      → Wrong w capacity M n (number_of fault) place
  checked_wrong fault place e = go (is_good w capacity M n) refl e
    where
      go : (b : Bool) → is_good w capacity M n ≡ b → refused (number_of fault) place ≡ told b → Wrong w capacity M n (number_of fault) place
      go true is e = absurd (number_ne0 fault (ap (λ (a : Answer). a.number) e))
      go false is e = record { wrong = is; eleven = ap (λ (a : Answer). a.number) e; at_zero = ap (λ (a : Answer). a.place) e }
