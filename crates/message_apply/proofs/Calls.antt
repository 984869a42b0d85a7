-- Each answer of the call, by what the code knows where it returns. Assumes nothing.
use mathlib.Core.Path.{◌≡◌, sym, ap, ap₂, ◌∙◌}
use mathlib.Core.Bool.{true, false}
use mathlib.Core.List.{List}
use Prim.Native.Nat.{ℕ, ◌-◌, ◌≤◌}
use native.Mathlib.Omega.{arith}
use lib.ListN.{length, take, drop, length-drop}
use lib.Seq.{length-take-le, take_all}
use borrow.Author.Tests.{eq-eqb, ne_eqb}
use Rattle.promise.specs.Over.{Outcome, outcome}
use Rattle.refusals.specs.Refusals.{wrong_port, not_in_order, keeping_at}
use Rattle.refusals.specs.declared.Answer.{Answer}
use Rattle.routes.specs.Check.{is_port}
use Rattle.table_rules.specs.Check.{is_good}
use Rattle.table_rows.specs.Words.{five_words}
use Rattle.message_rules.specs.Message.{withdrawn_at, withdrawn_size, attributes_size_at, announced_at, withdrawn_part, announced_part, prefixes_in}
use Rattle.message_rules.specs.Check.{message_check, Fits}
use Rattle.message_rules.proofs.Heads.{message_fits}
use Rattle.message_check.specs.Checked.{checked_of}
use Rattle.message_check.proofs.Whole.{checked_answer}
use Rattle.message_check.specs.Checked.{Checked}
use Rattle.message_calls.specs.Apply.{applied_to, apply_into}
use Rattle.message_apply.specs.Needs.{Applies}

module _ (message : List ℕ) (port : ℕ) (words : List ℕ) (n : ℕ) (checked : Checked) (checked-is : checked ≡ checked_of 32 message) where
  answer_is : checked.answer ≡ message_check 32 message
  answer_is = ap (λ (c : Checked). c.answer) checked-is ∙ checked_answer 32 message

  pub apply_refused : (checked.answer.number ≡ 0 → ⊥) → (r : Answer) → r ≡ keeping_at checked.answer.number checked.answer.place n
      → outcome r words ≡ apply_into five_words 32 message port words n
  unfolding apply_into
  apply_refused ne r r-is =
      ap (λ (x : Answer). outcome x words) r-is
      ∙ ap (λ (a : Answer). outcome (keeping_at a.number a.place n) words) answer_is
      ∙ sym (rw (ne_eqb (message_check 32 message).number 0 (λ z. ne (ap (λ (a : Answer). a.number) answer_is ∙ z))))

  module _ (fine : checked.answer.number ≡ 0) where
    is_fine : (message_check 32 message).number ≡ 0
    is_fine = ap (λ (a : Answer). a.number) (sym answer_is) ∙ fine

    pub apply_wrong_port : is_port port ≡ false → (r : Answer) → r ≡ keeping_at wrong_port 0 n → outcome r words ≡ apply_into five_words 32 message port words n
    unfolding apply_into
    apply_wrong_port p r r-is =
        ap (λ (x : Answer). outcome x words) r-is ∙ sym (rw (eq-eqb (message_check 32 message).number 0 is_fine, p))

    module _ (ported : is_port port ≡ true) where
      pub apply_disorder : is_good 32 (five_words.room words) (five_words.get words) n ≡ false → (r : Answer) → r ≡ keeping_at not_in_order 0 n
          → outcome r words ≡ apply_into five_words 32 message port words n
      unfolding apply_into
      apply_disorder g r r-is =
          ap (λ (x : Answer). outcome x words) r-is ∙ sym (rw (eq-eqb (message_check 32 message).number 0 is_fine, ported, g))

      fits : Fits message
      fits = message_fits 32 message is_fine

      end_is : checked.end ≡ attributes_size_at message
      unfolding checked_of
      end_is = ap (λ (c : Checked). c.end) checked-is ∙ rw (eq-eqb (message_check 32 message).number 0 is_fine)

      start_is : checked.start ≡ announced_at message
      unfolding checked_of
      start_is = ap (λ (c : Checked). c.start) checked-is ∙ rw (eq-eqb (message_check 32 message).number 0 is_fine)

      pub parts_within : (withdrawn_at ≤ checked.end) × (checked.end ≤ length message) × (checked.start ≤ length message)
      parts_within = (omega (arith, end_is), omega (arith, end_is, fits.withdrawn), omega (arith, start_is, fits.announced))

      abbrev gone : List ℕ
      gone = take (checked.end - withdrawn_at) (drop withdrawn_at message)

      abbrev come : List ℕ
      come = take (length message - checked.start) (drop checked.start message)

      gone_is : gone ≡ withdrawn_part message
      gone_is =
          let e : checked.end - withdrawn_at ≡ withdrawn_size message = omega (arith, end_is) in
          ap (λ (k : ℕ). take k (drop withdrawn_at message)) e

      come_is : come ≡ announced_part message
      come_is =
          take_all (length message - checked.start) (drop checked.start message) (omega (arith, length-drop checked.start message))
          ∙ ap (λ (k : ℕ). drop k message) start_is

      module _ (good : is_good 32 (five_words.room words) (five_words.get words) n ≡ true) where
        pub applies : Applies port gone come words n
        applies = record {
          ported = ported;
          good = good;
          few =
              omega (
                arith,
                parts_within.1,
                parts_within.2,
                start_is,
                end_is,
                fits.most,
                length-take-le (checked.end - withdrawn_at) (drop withdrawn_at message) (rw (length-drop withdrawn_at message) (omega (arith, parts_within.1))),
                length-take-le (length message - checked.start) (drop checked.start message) (rw (length-drop checked.start message) (omega arith)),
              );
        }

        pub apply_done : (o : Outcome Answer) → o ≡ applied_to five_words 32 port (prefixes_in 32 gone) (prefixes_in 32 come) words n
            → o ≡ apply_into five_words 32 message port words n
        unfolding apply_into
        apply_done o o_is =
            o_is
            ∙ ap₂ (λ (x y : List ℕ). applied_to five_words 32 port (prefixes_in 32 x) (prefixes_in 32 y) words n) gone_is come_is
            ∙ sym (rw (eq-eqb (message_check 32 message).number 0 is_fine, ported, good))
