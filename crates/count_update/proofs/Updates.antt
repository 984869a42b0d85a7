-- An update that was first checked: refused, or done with the counts that follow it. Assumes nothing.
use mathlib.Core.Path.{◌≡◌, refl, sym, ap, ◌∙◌, subst}
use mathlib.Core.Logic.{◌⊎◌, inl, inr}
use mathlib.Core.Bool.{true}
use mathlib.Core.List.{List}
use Prim.Native.Nat.{ℕ}
use borrow.Author.Tests.{ne_eqb}
use Rattle.promise.specs.Over.{Outcome, outcome}
use Rattle.refusals.specs.declared.Answer.{Answer}
use Rattle.table_rules.specs.Check.{is_good}
use Rattle.table_rules.proofs.Good.{check_is_good}
use Rattle.table_rows.specs.Words.{five_words}
use Rattle.table_rows.proofs.Words.{words_stores}
use Rattle.table_update.specs.History.{Table}
use Rattle.message_calls.specs.History.{Event, EventFits, outcome_on, after_event}
use Rattle.message_calls.proofs.Theorems.{event_is}
use Rattle.count_rules.specs.Counted.{counted, fault_of, first_check, recounted, counted_on}
use Rattle.count_rules.proofs.Counted.{Passed, Refused, first_either, counted_passed}
use Rattle.count_update.specs.Needs.{Settles}

module _ (words : List ℕ) (n : ℕ) (counts : List ℕ) (e : Event) (fault checked : Answer) (fault-is : fault ≡ fault_of 32 n e)
    (check-is : checked ≡ first_check five_words 32 fault words n counts) where
  is_first : checked ≡ first_check five_words 32 (fault_of 32 n e) words n counts
  is_first = check-is ∙ ap (λ (a : Answer). first_check five_words 32 a words n counts) fault-is

  pub update_refused : (checked.number ≡ 0 → ⊥) → counted checked words counts ≡ counted_on five_words 32 words n counts e
  unfolding counted_on
  update_refused wrong =
      ap (λ (a : Answer). counted a words counts) is_first
      ∙ sym (rw (ne_eqb (first_check five_words 32 (fault_of 32 n e) words n counts).number 0 (λ z. wrong (ap (λ (a : Answer). a.number) is_first ∙ z))) refl)

  module _ (z : checked.number ≡ 0) where
    passed : Passed five_words 32 (fault_of 32 n e) words n counts
    passed = by (first_either five_words 32 (fault_of 32 n e) words n counts)
      where
        by : Passed five_words 32 (fault_of 32 n e) words n counts ⊎ Refused five_words 32 (fault_of 32 n e) words n counts
            → Passed five_words 32 (fault_of 32 n e) words n counts
        by (inl p) = p
        by (inr r) = absurd (r.wrong (sym (ap (λ (a : Answer). a.number) is_first) ∙ z))

    module _ (done : Answer) (left : List ℕ) (plain_is : outcome done left ≡ outcome_on five_words 32 words n e) where
      -- the rows are in good order once more
      pub update_settles : EventFits 32 e → Settles done left counts
      update_settles fits =
          let t : Table = record { words = words; count = n } in
          let order = (check_is_good 32 (five_words.room words) (five_words.get words) n).0 passed.good in
          let after = event_is five_words 32 (words_stores 32) refl t order.0 e fits order.1 in
          let u : Table = after_event five_words 32 t e in
          record {
            good = λ w.
                subst (λ (o : Outcome Answer). is_good 32 (five_words.room o.lent) (five_words.get o.lent) o.answer.count ≡ true) (sym plain_is)
                ((check_is_good 32 (five_words.room u.words) (five_words.get u.words) u.count).1 (_, after));
            room = passed.room;
          }

      pub update_done : {r : Answer} {counts' : List ℕ} → outcome r counts' ≡ outcome done (recounted five_words 32 (outcome done left) counts)
          → counted r left counts' ≡ counted_on five_words 32 words n counts e
      update_done s =
          ap (λ (o : Outcome Answer). counted o.answer left o.lent) s
          ∙ ap (λ (o : Outcome Answer). counted o.answer o.lent (recounted five_words 32 o counts)) plain_is
          ∙ sym (counted_passed five_words 32 words n counts e passed)
