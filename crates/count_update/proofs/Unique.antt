-- Any two outcomes that a promise of this crate allows coincide: the answer, the words of the rows, and the counts. Assumes nothing.
use mathlib.Core.Path.{◌≡◌, sym, ap, ◌∙◌}
use mathlib.Core.List.{List}
use Prim.Native.Nat.{ℕ}
use Rattle.std.proofs.Common.{Result}
use Rattle.refusals.specs.declared.Refusal.{Refusal}
use Rattle.refusals.specs.Refusals.{updated}
use Rattle.refusals.proofs.Numbers.{updated_one}
use Rattle.promise.specs.Determined.{Determined}
use Rattle.count_rules.specs.Counted.{Counted, counted}
use Rattle.count_update.proofs.first_check.Kinds as first_check_kinds
use Rattle.count_update.proofs.first_check.Reads as first_check_reads
use Rattle.count_update.proofs.announce.Kinds as announce_kinds
use Rattle.count_update.proofs.announce.Reads as announce_reads
use Rattle.count_update.proofs.withdraw.Kinds as withdraw_kinds
use Rattle.count_update.proofs.withdraw.Reads as withdraw_reads
use Rattle.count_update.proofs.apply.Kinds as apply_kinds
use Rattle.count_update.proofs.apply.Reads as apply_reads

-- it writes nothing
first_check_unique : Determined 2 first_check_kinds.ps first_check_kinds.r first_check_reads.Post (λ κs x s. x)
first_check_unique κs a x y s t p q = p ∙ sym q

-- what an update returns, and the two memories that it leaves
record Left : Type 0 where
  result : Result ℕ Refusal
  rows : List ℕ
  counts : List ℕ

abbrev left : Result ℕ Refusal → List ℕ → List ℕ → Left
left result rows counts = record { result = result; rows = rows; counts = counts }

left_one : (n : ℕ) (x y : Result ℕ Refusal) (r s c d : List ℕ) → counted (updated n x) r c ≡ counted (updated n y) s d → left x r c ≡ left y s d
left_one n x y r s c d e =
    let results = updated_one n x y (ap (λ (u : Counted). u.answer) e) in
    λ i. left (results i) (ap (λ (u : Counted). u.rows) e i) (ap (λ (u : Counted). u.counts) e i)

announce_unique : Determined 2 announce_kinds.ps announce_kinds.r announce_reads.Post (λ κs x s. left x s.0.now s.1.1.1.0.now)
announce_unique κs a x y s t p q = left_one a.1.0 x y _ _ _ _ (p ∙ sym q)

withdraw_unique : Determined 2 withdraw_kinds.ps withdraw_kinds.r withdraw_reads.Post (λ κs x s. left x s.0.now s.1.1.1.0.now)
withdraw_unique κs a x y s t p q = left_one a.1.0 x y _ _ _ _ (p ∙ sym q)

-- the message is read, and the words of the rows and the counts are what the call may change
apply_unique : Determined 3 apply_kinds.ps apply_kinds.r apply_reads.Post (λ κs x s. left x s.1.1.0.now s.1.1.1.1.0.now)
apply_unique κs a x y s t p q = left_one a.1.1.1.0 x y _ _ _ _ (p ∙ sym q)
