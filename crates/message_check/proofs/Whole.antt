-- The check of a message from the checks of its head and its parts, in their order. Assumes nothing.
use mathlib.Core.Path.{◌≡◌, refl, sym, ap, ap₂, ◌∙◌}
use mathlib.Core.Bool.{Bool, true, false, cond}
use mathlib.Core.List.{List}
use Prim.Native.Nat.{ℕ, ◌+◌, ◌-◌, ◌≤◌}
use native.Mathlib.Omega.{arith}
use lib.Dec.{eqb}
use lib.ListN.{length, take, drop, length-drop}
use lib.Seq.{length-take-le, take_all}
use borrow.Author.Tests.{eq-eqb, ne_eqb}
use Rattle.refusals.specs.declared.Answer.{Answer}
use Rattle.message_rules.specs.Message.{withdrawn_at, most_size, field_at, withdrawn_size, attributes_size_at, announced_at, withdrawn_part, announced_part}
use Rattle.message_rules.specs.Check.{head_check, part_check, message_check, Fits}
use Rattle.message_rules.proofs.Heads.{head_fits}
use Rattle.message_rules.proofs.Refused.{then_refused, then_next}
use Rattle.message_check.specs.Checked.{refused_by, checked_of}
use Rattle.message_check.specs.Checked.{Checked}

-- what it answers, whatever it says of the parts
pub checked_answer : (w : ℕ) (message : List ℕ) → (checked_of w message).answer ≡ message_check w message
unfolding checked_of
checked_answer w message = by (eqb (message_check w message).number 0)
  where
    done : Checked
    done = record { answer = message_check w message; end = attributes_size_at message; start = announced_at message }

    by : (b : Bool) → (cond {A = Checked} b done (refused_by (message_check w message))).answer ≡ message_check w message
    by true = refl
    by false = refl

module _ (w : ℕ) (message : List ℕ) where
  checked_refused : (a : Answer) → a ≡ message_check w message → (a.number ≡ 0 → ⊥) → refused_by a ≡ checked_of w message
  unfolding checked_of
  checked_refused a is n =
      ap refused_by is ∙ sym (rw (ne_eqb (message_check w message).number 0 (λ z. n (ap (λ (x : Answer). x.number) is ∙ z))))

  module _ (head : Answer) (head_is : head ≡ head_check message) where
    pub head_refused : (head.number ≡ 0 → ⊥) → refused_by head ≡ checked_of w message
    unfolding message_check
    head_refused n =
        checked_refused head
        (head_is ∙ sym (then_refused (head_check message) _ (λ z. n (ap (λ (x : Answer). x.number) head_is ∙ z)))) n

    module _ (head-fine : head.number ≡ 0) where
      fine : (head_check message).number ≡ 0
      fine = ap (λ (x : Answer). x.number) (sym head_is) ∙ head-fine

      pub fits : Fits message
      fits = head_fits message fine

      module _ (size : ℕ) (size_is : size ≡ withdrawn_size message) where
        ends : withdrawn_at + size ≡ attributes_size_at message
        ends = ap (λ (s : ℕ). withdrawn_at + s) size_is

        pub end_within : withdrawn_at + size + 2 ≤ length message
        end_within = omega (arith, ends, fits.withdrawn)

        abbrev lent_withdrawn : List ℕ
        lent_withdrawn = take (withdrawn_at + size - withdrawn_at) (drop withdrawn_at message)

        withdrawn_is : lent_withdrawn ≡ withdrawn_part message
        withdrawn_is =
            let e : withdrawn_at + size - withdrawn_at ≡ size = omega arith in
            ap (λ (k : ℕ). take k (drop withdrawn_at message)) (e ∙ size_is)

        pub withdrawn_room : withdrawn_at + length lent_withdrawn ≤ most_size
        withdrawn_room =
            let l : length lent_withdrawn ≡ withdrawn_at + size - withdrawn_at =
            length-take-le (withdrawn_at + size - withdrawn_at) (drop withdrawn_at message) (rw (length-drop withdrawn_at message) (omega (arith, end_within))) in
            omega (arith, l, end_within, fits.most)

        module _ (a : Answer) (a_is : a ≡ part_check w lent_withdrawn withdrawn_at) where
          is_withdrawn : a ≡ part_check w (withdrawn_part message) withdrawn_at
          is_withdrawn = a_is ∙ ap (λ (p : List ℕ). part_check w p withdrawn_at) withdrawn_is

          pub withdrawn_refused : (a.number ≡ 0 → ⊥) → refused_by a ≡ checked_of w message
          unfolding message_check
          withdrawn_refused n =
              checked_refused a
              (is_withdrawn
              ∙ sym (then_next (head_check message) _ fine
              ∙ then_refused (part_check w (withdrawn_part message) withdrawn_at) _ (λ z. n (ap (λ (x : Answer). x.number) is_withdrawn ∙ z)))) n

          module _ (a-fine : a.number ≡ 0) (attributes : ℕ) (attributes-are : attributes ≡ field_at message (withdrawn_at + size)) where
            abbrev at : ℕ
            at = withdrawn_at + size + 2 + attributes

            starts : at ≡ announced_at message
            starts = ap (λ (k : ℕ). withdrawn_at + size + 2 + k) attributes-are ∙ ap (λ (e : ℕ). e + 2 + field_at message e) ends

            pub at_within : at ≤ length message
            at_within = omega (arith, starts, fits.announced)

            abbrev lent_announced : List ℕ
            lent_announced = take (length message - at) (drop at message)

            announced_is : lent_announced ≡ announced_part message
            announced_is =
                take_all (length message - at) (drop at message) (omega (arith, length-drop at message))
                ∙ ap (λ (k : ℕ). drop k message) starts

            pub announced_room : at + length lent_announced ≤ most_size
            announced_room =
                let l : length lent_announced ≡ length message - at = length-take-le (length message - at) (drop at message) (rw (length-drop at message) (omega arith)) in
                omega (arith, l, at_within, fits.most)

            module _ (b : Answer) (b-is : b ≡ part_check w lent_announced at) where
              is_message : b ≡ message_check w message
              unfolding message_check
              is_message =
                  b-is ∙ ap₂ (λ (p : List ℕ) (k : ℕ). part_check w p k) announced_is starts
                  ∙ sym (then_next (head_check message) _ fine
                  ∙ then_next (part_check w (withdrawn_part message) withdrawn_at) _ (ap (λ (x : Answer). x.number) (sym is_withdrawn) ∙ a-fine))

              pub announced_refused : (b.number ≡ 0 → ⊥) → refused_by b ≡ checked_of w message
              announced_refused n = checked_refused b is_message n

              pub message_done : b.number ≡ 0 → record { answer = b; end = withdrawn_at + size; start = at } ≡ checked_of w message
              unfolding checked_of
              message_done z =
                  ap (λ (x : Answer). record { answer = x; end = withdrawn_at + size; start = at }) is_message
                  ∙ ap₂ (λ (e s : ℕ). record { answer = message_check w message; end = e; start = s }) ends starts
                  ∙ sym (rw (eq-eqb (message_check w message).number 0 (ap (λ (x : Answer). x.number) (sym is_message) ∙ z)))
