-- Three messages that are accepted: with nothing in it, one that withdraws the whole space, and one that announces it and its left half.
-- Assumes nothing.
use mathlib.Core.Path.{◌≡◌, refl, subst}
use mathlib.Core.Bool.{Bool, true, ◌&&◌}
use mathlib.Core.List.{List, [], ◌∷◌, ◌++◌}
use Prim.Native.Nat.{ℕ, zero, suc}
use native.Mathlib.Omega.{arith}
use lib.Dec.{ltb}
use lib.ListN.{replicate}
use borrow.Author.Tests.{ltb-true}
use Rattle.promise.specs.Over.{Outcome}
use Rattle.lists.proofs.Tests.{both}
use Rattle.lists.specs.Below.{some_below}
use Rattle.prefix.specs.Prefixes.{prefix}
use Rattle.refusals.specs.Refusals.{accepted}
use Rattle.refusals.specs.declared.Answer.{Answer}
use Rattle.octets.specs.Bytes.{Bytes, number}
use Rattle.octets.specs.Taken.{taken_at}
use Rattle.table_rows.specs.Words.{row_at, store_row, five_words}
use Rattle.table_rules.specs.Check.{is_good}
use Rattle.message_rules.specs.Message.{marker_size, ones, prefixes_from, withdrawn_in, announced_in}
use Rattle.message_rules.specs.Check.{inner_check, head_check, part_from, message_check}
use Rattle.message_calls.specs.Once.{those, among, once_after}
use Rattle.message_calls.specs.Named.{final_count}
use Rattle.message_calls.specs.Apply.{applied_to, apply_into}
use Rattle.demands.specs.Lamp.{Verdict}
use Rattle.demands.specs.MessageChecks.{message_checks}
use Rattle.demands.proofs.Shown.{View}
use Rattle.demands.proofs.OfMessages.{on_message}

abbrev marker : List ℕ
marker = replicate marker_size ones

abbrev pub nothing : List ℕ
nothing = marker ++ (0 ∷ 23 ∷ 2 ∷ 0 ∷ 0 ∷ 0 ∷ 0 ∷ [])

abbrev pub whole_withdrawn : List ℕ
whole_withdrawn = marker ++ (0 ∷ 24 ∷ 2 ∷ 0 ∷ 1 ∷ 0 ∷ 0 ∷ 0 ∷ [])

abbrev pub two_announced : List ℕ
two_announced = marker ++ (0 ∷ 26 ∷ 2 ∷ 0 ∷ 0 ∷ 0 ∷ 0 ∷ 0 ∷ 1 ∷ 0 ∷ [])

-- their bytes are bytes, each by a test
abbrev all_small : List ℕ → Bool
all_small [] = true
all_small (b ∷ bs) = ltb b 256 && all_small bs

small_bytes : (bs : List ℕ) → all_small bs ≡ true → Bytes bs
small_bytes [] e i = omega arith
small_bytes (b ∷ bs) e zero = ltb-true b 256 (both (ltb b 256) (all_small bs) e).0
small_bytes (b ∷ bs) e (suc i) = small_bytes bs (both (ltb b 256) (all_small bs) e).1 i

pub nothing_bytes : Bytes nothing
nothing_bytes = small_bytes nothing refl

pub whole_bytes : Bytes whole_withdrawn
whole_bytes = small_bytes whole_withdrawn refl

pub two_bytes : Bytes two_announced
two_bytes = small_bytes two_announced refl

-- what they name
pub nothing_checked : message_check 32 nothing ≡ accepted 0
unfolding message_check head_check inner_check part_from number some_below
nothing_checked = refl

pub whole_checked : message_check 32 whole_withdrawn ≡ accepted 0
unfolding message_check head_check inner_check part_from number some_below taken_at
whole_checked = refl

pub two_checked : message_check 32 two_announced ≡ accepted 0
unfolding message_check head_check inner_check part_from number some_below taken_at
two_checked = refl

pub whole_withdraws : withdrawn_in 32 whole_withdrawn ≡ prefix 0 0 ∷ []
unfolding prefixes_from number taken_at
whole_withdraws = refl

pub whole_announces : announced_in 32 whole_withdrawn ≡ []
unfolding prefixes_from number taken_at
whole_announces = refl

pub two_withdraws : withdrawn_in 32 two_announced ≡ []
unfolding prefixes_from number taken_at
two_withdraws = refl

pub two_announces : announced_in 32 two_announced ≡ prefix 0 0 ∷ prefix 0 1 ∷ []
unfolding prefixes_from number taken_at
two_announces = refl

-- an accepted message leaves the verdict to what follows its checks

abbrev answering : View
answering = record { Seen = Answer; number = λ a. a.number; place = λ a. a.place; Kept = λ a. Unit {0} }

pub checked_through : (message : List ℕ) (rest : Verdict) → message_check 32 message ≡ accepted 0 → rest 0 0 → message_checks 32 message rest 0 0
checked_through message rest fine is =
    subst (λ (a : Answer). message_checks 32 message rest a.number a.place) fine
    (on_message answering (λ a. a) (λ m p some. record { exact = (refl, refl); kept = λ _. tt }) 32 message rest (record { exact = is; kept = λ _. tt })).exact

-- applied to rows of zeros

abbrev number_of : Outcome Answer → ℕ
number_of o = o.answer.number

pub nothing_applied : number_of (apply_into five_words 32 nothing 1 [] 0) ≡ 0
unfolding apply_into applied_to is_good row_at store_row final_count those once_after prefixes_from number
nothing_applied = rw nothing_checked

pub two_applied : number_of (apply_into five_words 32 two_announced 1 (replicate 10 0) 0) ≡ 0
unfolding apply_into applied_to is_good row_at store_row final_count those once_after among
two_applied = rw (two_checked, two_withdraws, two_announces)
