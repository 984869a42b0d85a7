-- What writing the message that withdraws a list answers and leaves, and the empty message. Assumes nothing.
use mathlib.Core.Path.{◌≡◌, refl, ap, ◌∙◌}
use mathlib.Core.Logic.{◌⊎◌, inl, inr}
use mathlib.Core.Bool.{Bool, true, false, ◌&&◌}
use mathlib.Core.List.{List}
use Prim.Native.Nat.{ℕ, ◌≤◌}
use native.Mathlib.Omega.{arith}
use lib.Dec.{eqb, leb}
use lib.ListN.{length, take}
use borrow.Author.Tests.{eqb-true, eqb-false, le-leb, leb-true}
use Rattle.lists.specs.Numbered.{in_order}
use Rattle.lists.specs.Below.{some_below}
use Rattle.lists.proofs.Tests.{way, both}
use Rattle.promise.specs.Over.{over, Outcome, outcome}
use Rattle.promise.proofs.Over.{over_taken}
use Rattle.refusals.specs.Refusals.{accepted}
use Rattle.refusals.specs.declared.Answer.{Answer}
use Rattle.routes.specs.Routes.{route_at, route_count}
use Rattle.routes.specs.Check.{list_check, routes_check, first_fault}
use Rattle.routes.proofs.Check.{accepted_valid}
use Rattle.octets.specs.Bytes.{number, digits}
use Rattle.message_rules.specs.Message.{most_size, prefixes_from}
use Rattle.message_rules.specs.Check.{inner_check, head_check, part_from, message_check}
use Rattle.message_rules.specs.Written.{withdrawal_of, write_message}
use Rattle.message_rules.specs.Theorems.{left_by, ReadWritten, RefusalWritesNothing, EmptyMessage}
use Rattle.message_rules.proofs.Written.{length_written}
use Rattle.message_rules.proofs.WrittenBack.{written_reads}

module _ (w : ℕ) (list lent : List ℕ) where
  abbrev message : List ℕ
  message = withdrawal_of w (route_at list) (route_count list)

  abbrev room : Bool
  room = leb (length message) most_size && leb (length message) (length lent)

  -- done: the list is accepted, and its message has room
  record Done : Type 0 where
    listed : (list_check w list).number ≡ 0
    most : length message ≤ most_size
    is : write_message w list lent ≡ outcome (accepted (length message)) (over message lent)

  -- either it is done, or nothing is written
  ways : Done ⊎ (((write_message w list lent).answer.number ≡ 0 → ⊥) × ((write_message w list lent).lent ≡ lent))
  unfolding write_message
  ways = go (way (eqb (list_check w list).number 0)) (way room)
    where
      go : (eqb (list_check w list).number 0 ≡ true) ⊎ (eqb (list_check w list).number 0 ≡ false) → (room ≡ true) ⊎ (room ≡ false)
          → Done ⊎ (((write_message w list lent).answer.number ≡ 0 → ⊥) × ((write_message w list lent).lent ≡ lent))
      go (inl s) (inl t) =
          let b = both (leb (length message) most_size) (leb (length message) (length lent)) t in
          inl (record { listed = eqb-true (list_check w list).number 0 s; most = leb-true (length message) most_size b.0; is = rw (s, t) })
      go (inl s) (inr t) = inr (λ z. omega (arith, rw (s, t) at z), rw (s, t))
      go (inr s) t = inr (λ z. eqb-false (list_check w list).number 0 s (rw s at z), rw s)

-- what a done call left is the message
left_is : (w : ℕ) (list lent : List ℕ) → (write_message w list lent).answer.number ≡ 0
    → (left_by w list lent ≡ message w list lent) × ((list_check w list).number ≡ 0) × (length (message w list lent) ≤ most_size)
left_is w list lent e = go (ways w list lent)
  where
    go : Done w list lent ⊎ (((write_message w list lent).answer.number ≡ 0 → ⊥) × ((write_message w list lent).lent ≡ lent))
        → (left_by w list lent ≡ message w list lent) × ((list_check w list).number ≡ 0) × (length (message w list lent) ≤ most_size)
    go (inl d) = (
      ap (λ (o : Outcome Answer). take o.answer.count o.lent) d.is
          ∙ over_taken (message w list lent) lent (length (message w list lent)) refl,
      d.listed,
      d.most,
    )
    go (inr x) = absurd (x.0 e)

pub read_written : ReadWritten
read_written w list lent whole fits e =
    let R = route_at list in
    let n = route_count list in
    let d = left_is w list lent e in
    rw d.0 (written_reads w R n whole (accepted_valid w list fits d.1) (omega (arith, length_written w R n, d.2)))

pub refusal_writes_nothing : RefusalWritesNothing
refusal_writes_nothing w list lent n = go (ways w list lent)
  where
    go : Done w list lent ⊎ (((write_message w list lent).answer.number ≡ 0 → ⊥) × ((write_message w list lent).lent ≡ lent))
        → (write_message w list lent).lent ≡ lent
    go (inl d) = absurd (n (ap (λ (o : Outcome Answer). o.answer.number) d.is))
    go (inr x) = x.1

pub empty_message_lem : EmptyMessage
unfolding number digits some_below inner_check head_check part_from message_check prefixes_from in_order list_check routes_check first_fault write_message
empty_message_lem w lent = (refl, refl, refl, λ room. rw (le-leb 23 (length lent) room))
