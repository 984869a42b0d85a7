-- Any two results that a promise of this crate allows coincide. Assumes nothing.
use Rattle.std.proofs.Common.{◌≡◌, sym, ap, ◌∙◌, Result, Ok, Err}
use Rattle.promise.specs.Determined.{Determined}
use Rattle.refusals.specs.declared.Refusal.{Refusal}
use Rattle.refusals.proofs.Numbers.{number_ne0, number_one}
use Rattle.message_check.specs.declared.Parts.{Parts}
use Rattle.message_check.specs.Checked.{Checked, checked_as}
use Rattle.message_check.proofs.check_message.Kinds as check_message_kinds
use Rattle.message_check.proofs.check_message.Reads as check_message_reads

-- what the definitions call the outcome of a check tells what it returned
checked_as_one : (x y : Result Parts Refusal) → checked_as x ≡ checked_as y → x ≡ y
checked_as_one (Ok a) (Ok b) e = λ i. Ok (record { end = ap (λ (z : Checked). z.end) e i; start = ap (λ (z : Checked). z.start) e i })
checked_as_one (Ok a) (Err b) e = absurd (number_ne0 b.fault (sym (ap (λ (z : Checked). z.answer.number) e)))
checked_as_one (Err a) (Ok b) e = absurd (number_ne0 a.fault (ap (λ (z : Checked). z.answer.number) e))
checked_as_one (Err a) (Err b) e =
    let fault = number_one a.fault b.fault (ap (λ (z : Checked). z.answer.number) e) in
    ap Err (λ i. record { fault = fault i; place = (ap (λ (z : Checked). z.answer.place) e) i })

check_message_unique : Determined 1 check_message_kinds.ps check_message_kinds.r check_message_reads.Post (λ κs x s. x)
check_message_unique κs a x y s t p q = checked_as_one x y (p ∙ sym q)
