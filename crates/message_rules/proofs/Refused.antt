-- The check of a message refuses exactly at the first prefix at fault, the withdrawn part before the announced one: RULES, "Order of the
-- checks". Assumes nothing.
use mathlib.Core.Path.{◌≡◌, sym, ap, ◌∙◌}
use mathlib.Core.Logic.{◌⊎◌, inl, inr, ⊎_elim}
use mathlib.Core.Bool.{true, false}
use mathlib.Core.List.{List}
use Prim.Native.Nat.{ℕ}
use native.Mathlib.Omega.{arith}
use lib.Dec.{eqb}
use borrow.Author.Tests.{eq-eqb, ne_eqb, eqb-true, eqb-false}
use Rattle.lists.proofs.Tests.{way}
use Rattle.refusals.specs.Refusals.{long_prefix, bad_message, refused, accepted, and_then}
use Rattle.refusals.specs.declared.Answer.{Answer}
use Rattle.message_rules.specs.Message.{withdrawn_at, announced_at, withdrawn_part, announced_part}
use Rattle.message_rules.specs.Check.{head_check, part_check, message_check}
use Rattle.message_rules.specs.Faults.{Headed, WholePart}
use Rattle.message_rules.specs.Theorems.{FaultyAt, MessageRefused, MessageDone, MessageNumbers, NeverSpare}
use Rattle.message_rules.proofs.Heads.{head_headed, headed_head, head_number, message_head}
use Rattle.message_rules.proofs.Parts.{number_of, part_fine, part_first, part_whole_if, part_faulty_if, part_number}

-- what comes after a check, by its answer

pub then_refused : (a b : Answer) → (a.number ≡ 0 → ⊥) → and_then a b ≡ a
then_refused a b n = rw (ne_eqb a.number 0 n)

pub then_next : (a b : Answer) → a.number ≡ 0 → and_then a b ≡ b
then_next a b z = rw (eq-eqb a.number 0 z)

-- a check and what follows accept together
then_done : (a b : Answer) → (and_then a b).number ≡ 0 → (a.number ≡ 0) × (b.number ≡ 0)
then_done a b e =
    ⊎_elim
    (λ (t : eqb a.number 0 ≡ true). let z = eqb-true a.number 0 t in (z, ap number_of (sym (then_next a b z)) ∙ e))
    (λ (t : eqb a.number 0 ≡ false). let n = eqb-false a.number 0 t in absurd (n (ap number_of (sym (then_refused a b n)) ∙ e)))
    (way (eqb a.number 0))

-- the message

module _ (w : ℕ) (message : List ℕ) where
  abbrev withdrawn : Answer
  withdrawn = part_check w (withdrawn_part message) withdrawn_at

  abbrev announced : Answer
  announced = part_check w (announced_part message) (announced_at message)

  message_parts : Headed message → message_check w message ≡ and_then withdrawn announced
  unfolding message_check
  message_parts h = then_next (head_check message) _ (ap number_of (headed_head message h))

  message_headed : (message_check w message).number ≡ 0 → Headed message
  message_headed e = head_headed message (message_head w message e)

  parts_done : Headed message → (message_check w message).number ≡ 0 → (withdrawn.number ≡ 0) × (announced.number ≡ 0)
  parts_done h e = then_done withdrawn announced (ap number_of (sym (message_parts h)) ∙ e)

pub message_done : MessageDone
message_done w message = (
  λ e.
      let z = ap number_of e in
      let h = message_headed w message z in
      let d = parts_done w message h z in
      (h, part_whole_if w (withdrawn_part message) withdrawn_at d.0, part_whole_if w (announced_part message) (announced_at message) d.1),
  λ x.
      message_parts w message x.0
      ∙ then_next (withdrawn w message) (announced w message) (ap number_of (part_fine w (withdrawn_part message) withdrawn_at x.1.0 x.1.1))
      ∙ part_fine w (announced_part message) (announced_at message) x.2.0 x.2.1,
)

pub message_refused : MessageRefused
message_refused w message m p headed wrong = (λ e. there e (way (eqb (withdrawn w message).number 0)), back)
  where
    Faulty : Type 0
    Faulty =
        FaultyAt w (withdrawn_part message) withdrawn_at m p
        ⊎ (((n : ℕ) × WholePart w (withdrawn_part message) n) × FaultyAt w (announced_part message) (announced_at message) m p)

    there : message_check w message ≡ refused m p
        → (eqb (withdrawn w message).number 0 ≡ true) ⊎ (eqb (withdrawn w message).number 0 ≡ false) → Faulty
    there e (inl t) =
        let z = eqb-true (withdrawn w message).number 0 t in
        inr (
          part_whole_if w (withdrawn_part message) withdrawn_at z,
          part_faulty_if w (announced_part message) (announced_at message) m p wrong
              (sym (message_parts w message headed ∙ then_next (withdrawn w message) (announced w message) z) ∙ e),
        )
    there e (inr t) =
        let n = eqb-false (withdrawn w message).number 0 t in
        inl
        (part_faulty_if w (withdrawn_part message) withdrawn_at m p wrong
        (sym (message_parts w message headed ∙ then_refused (withdrawn w message) (announced w message) n) ∙ e))

    faulty : (part : List ℕ) (from : ℕ) → FaultyAt w part from m p → part_check w part from ≡ refused m p
    faulty part from x = part_first w part from m x.0 wrong x.2 ∙ ap (refused m) (sym x.1)

    back : Faulty → message_check w message ≡ refused m p
    back (inl x) =
        let e = faulty (withdrawn_part message) withdrawn_at x in
        message_parts w message headed
        ∙ then_refused (withdrawn w message) (announced w message) (λ z. wrong (sym (ap number_of e) ∙ z)) ∙ e
    back (inr x) =
        message_parts w message headed
        ∙ then_next (withdrawn w message) (announced w message) (ap number_of (part_fine w (withdrawn_part message) withdrawn_at x.0.0 x.0.1))
        ∙ faulty (announced_part message) (announced_at message) x.1

pub message_numbers : MessageNumbers
unfolding message_check
message_numbers w message = by (head_number message)
  where
    Numbered : Answer → Type 0
    Numbered a = (a ≡ accepted 0) ⊎ ((a.number ≡ long_prefix) ⊎ (a.number ≡ bad_message))

    next : (a b : Answer) → Numbered a → Numbered b → Numbered (and_then a b)
    next a b (inl e) y = rw e y
    next a b (inr (inl e)) y = inr (inl (ap number_of (then_refused a b (λ z. omega (arith, e, z))) ∙ e))
    next a b (inr (inr e)) y = inr (inr (ap number_of (then_refused a b (λ z. omega (arith, e, z))) ∙ e))

    head : (head_check message ≡ accepted 0) ⊎ ((head_check message).number ≡ bad_message) → Numbered (head_check message)
    head (inl e) = inl e
    head (inr e) = inr (inr e)

    by : (head_check message ≡ accepted 0) ⊎ ((head_check message).number ≡ bad_message) → Numbered (and_then (head_check message) (and_then (withdrawn w message) (announced w message)))
    by x =
        next (head_check message) (and_then (withdrawn w message) (announced w message)) (head x)
        (next (withdrawn w message) (announced w message) (part_number w (withdrawn_part message) withdrawn_at) (part_number w (announced_part message) (announced_at message)))

pub never_spare : NeverSpare
never_spare w message e = go (message_numbers w message)
  where
    go : (message_check w message ≡ accepted 0) ⊎ (((message_check w message).number ≡ long_prefix) ⊎ ((message_check w message).number ≡ bad_message))
        → ⊥
    go (inl x) = omega (arith, e, ap number_of x)
    go (inr (inl x)) = omega (arith, e, x)
    go (inr (inr x)) = omega (arith, e, x)
