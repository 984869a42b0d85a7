-- Demand 1 of the calls on messages. Assumes nothing.
use mathlib.Core.Path.{◌≡◌, sym, ◌∙◌}
use mathlib.Core.Logic.{◌⊎◌, inl, inr}
use mathlib.Core.Bool.{Bool, true, false, not, cond, ◌&&◌, ◌||◌, true≢false}
use mathlib.Core.List.{List}
use Prim.Native.Nat.{ℕ, zero, suc, ◌+◌, ◌%◌, ◌<◌, ◌≤◌}
use native.Mathlib.Omega.{arith}
use lib.Dec.{eqb, leb, ltb}
use lib.ListN.{length, get_or}
use borrow.Author.Tests.{ne_eqb, eq-eqb, leb-true, leb-false, ltb-true, ltb-false}
use Rattle.promise.specs.Over.{outcome, over}
use Rattle.lists.proofs.Below.{some_below_lem, passing}
use Rattle.lists.proofs.Tests.{either, neither}
use Rattle.trie.specs.Routes.{Routes}
use Rattle.refusals.specs.Refusals.{long_prefix, no_room, bad_message, refused, accepted, and_then}
use Rattle.refusals.specs.declared.Answer.{Answer}
use Rattle.routes.specs.Routes.{route_at, route_count}
use Rattle.octets.specs.Bytes.{Bytes}
use Rattle.octets.specs.Octets.{prefix_size, len_at, prefix_at}
use Rattle.octets.specs.Taken.{taken_at}
use Rattle.octets.specs.Taken.{Taken}
use Rattle.std.proofs.Common.{Ok, Err}
use Rattle.octets.specs.declared.NoPrefix.TheVariants.{Long, Cut}
use Rattle.table_rules.specs.Holds.{GoodFor, GoodOrder}
use Rattle.table_rows.specs.Words.{capacity, row_at}
use Rattle.message_rules.specs.Message.{marker_size, length_at, type_at, withdrawn_size_at, withdrawn_at, least_size, most_size, update_type, ones, unmarked, field_at, attributes_size_at, announced_at, withdrawn_part, announced_part, withdrawn_in, announced_in}
use Rattle.message_rules.specs.Check.{wrong_length, inner_check, head_check, fault_of, part_from, part_check, message_check}
use Rattle.message_rules.specs.Written.{withdrawal_of, write_message}
use Rattle.message_rules.proofs.Heads.{right_length}
use Rattle.message_calls.specs.Named.{final_count, final_set, Size}
use Rattle.message_calls.proofs.Theorems.{final_sized}
use Rattle.message_calls.proofs.Sized.{size_one}
use Rattle.demands.specs.Lamp.{Verdict, shows, done, refuse}
use Rattle.demands.specs.MessageChecks.{Unmarked, WrongLength, each_prefix, message_checks, TooMany, withdrawal_checks}
use Rattle.demands.proofs.Tells.{Tells, tells_le, tells_eq, tells_and}
use Rattle.demands.proofs.Shown.{View, On, Refuses, writing, on_accepted, on_refused, on_test, on_whether}
use Rattle.demands.proofs.Listed.{on_list}
use Rattle.demands.proofs.OfLists.{refusal_on}

-- made : what a call makes of the answer of its checks; a refusal it hands on
module _ (v : View) (made : Answer → v.Seen) (hands_on : (m p : ℕ) → 0 < m → On v (shows m p) (made (refused m p))) where
  -- a test that is true where something is wrong
  on_wrong : (b : Bool) (Wrong : Type 0) (m p : ℕ) → 0 < m → (rest : Verdict) (next : Answer) → (b ≡ true → Wrong) → (b ≡ false → Wrong → ⊥)
      → On v rest (made next) → On v (refuse m p Wrong rest) (made (cond b (refused m p) next))
  on_wrong b Wrong m p some rest next is isnt on =
      on_whether v b Wrong (shows m p) rest (λ c. made (cond c (refused m p) next)) is isnt (hands_on m p some) on

  -- the prefixes of a part
  on_prefixes : (w : ℕ) (part : List ℕ) (from : ℕ) (rest : Verdict) → On v rest (made (accepted 0)) → (k at : ℕ)
      → On v (each_prefix w part from k at rest) (made (part_from w part from k at))
  unfolding part_from taken_at
  on_prefixes w part from rest next zero at = next
  on_prefixes w part from rest next (suc k) at =
      let after = at + prefix_size (len_at part at) in
      let answer : Taken → v.Seen = λ t. made (cond (eqb (fault_of t) 0) (part_from w part from k after) (refused (fault_of t) (from + at))) in
      let whole = Ok (prefix_at w part at) in
      let fits = leb (at + prefix_size (len_at part at)) (length part) in
      on_whether v (ltb at (length part)) (at < length part) _ rest
      (λ b. made (cond b (cond (eqb (fault_of (taken_at w part at)) 0) (part_from w part from k after) (refused (fault_of (taken_at w part at)) (from + at))) (accepted 0)))
      (ltb-true at (length part)) (λ e h. omega (arith, ltb-false at (length part) e))
      (on_test v (leb (len_at part at) w) _ (tells_le (len_at part at) w) long_prefix (from + at) _ (λ b. answer (cond b (cond fits whole (Err Cut)) (Err Long)))
      (on_test v fits _ (tells_le (at + prefix_size (len_at part at)) (length part)) bad_message (from + at) _ (λ b. answer (cond b whole (Err Cut)))
      (on_prefixes w part from rest next k after) (hands_on bad_message (from + at) (omega arith)))
      (hands_on long_prefix (from + at) (omega arith)))
      next

-- what follows an accepted check is handed on too
then_on : (v : View) (made : Answer → v.Seen) (next : Answer) → ((m p : ℕ) → 0 < m → On v (shows m p) (made (refused m p)))
    → (m p : ℕ) → 0 < m → On v (shows m p) (made (and_then (refused m p) next))
then_on v made next hands_on m p some = rw (ne_eqb m 0 (λ e. omega arith)) (hands_on m p some)

-- the tests of the head

marker_is : (message : List ℕ) → unmarked message ≡ true → Unmarked message
marker_is message t =
    let p = passing (λ i. not (eqb (get_or message i 0) ones)) marker_size t in
    (p.which, p.below, λ e. true≢false (sym p.passes ∙ rw (eq-eqb (get_or message p.which 0) ones e)))

marker_isnt : (message : List ℕ) → unmarked message ≡ false → Unmarked message → ⊥
marker_isnt message f u =
    let other : not (eqb (get_or message u.0 0) ones) ≡ true = rw (ne_eqb (get_or message u.0 0) ones u.2) in
    true≢false (sym (some_below_lem (λ i. not (eqb (get_or message i 0) ones)) marker_size u.0 u.1 other) ∙ f)

length_is : (message : List ℕ) → wrong_length message ≡ true → WrongLength message
length_is message t =
    by (either (ltb f least_size || ltb most_size f) (not (eqb f (length message))) t)
  where
    f : ℕ
    f = field_at message length_at

    unequal : not (eqb f (length message)) ≡ true → f ≡ length message → ⊥
    unequal n e = true≢false (sym n ∙ rw (eq-eqb f (length message) e))

    inner : (ltb f least_size ≡ true) ⊎ (ltb most_size f ≡ true) → WrongLength message
    inner (inl a) = inl (inl (ltb-true f least_size a))
    inner (inr a) = inl (inr (ltb-true most_size f a))

    by : ((ltb f least_size || ltb most_size f) ≡ true) ⊎ (not (eqb f (length message)) ≡ true) → WrongLength message
    by (inl a) = inner (either (ltb f least_size) (ltb most_size f) a)
    by (inr a) = inr (unequal a)

length_isnt : (message : List ℕ) → wrong_length message ≡ false → WrongLength message → ⊥
length_isnt message e = by
  where
    f : ℕ
    f = field_at message length_at

    right : (length message ≤ most_size) × (f ≡ length message)
    right = right_length message e

    least : least_size ≤ f
    least = ltb-false f least_size (neither (ltb f least_size) (ltb most_size f) (neither (ltb f least_size || ltb most_size f) (not (eqb f (length message))) e).0).0

    by : WrongLength message → ⊥
    by (inl (inl h)) = omega (arith, least)
    by (inl (inr h)) = omega (arith, right.0, right.1)
    by (inr n) = n right.1

-- the checks of a message, whatever a call makes of their answer
module _ (v : View) (made : Answer → v.Seen) (hands_on : (m p : ℕ) → 0 < m → On v (shows m p) (made (refused m p))) where
  pub on_message : (w : ℕ) (message : List ℕ) (rest : Verdict) → On v rest (made (accepted 0)) → On v (message_checks w message rest) (made (message_check w message))
  unfolding message_check head_check inner_check
  on_message w message rest next =
      on_wrong v handed handed_on (ltb (length message) least_size) _ bad_message 0 (omega arith) _ _
      (ltb-true (length message) least_size) (λ e h. omega (arith, ltb-false (length message) least_size e))
      (on_wrong v handed handed_on (unmarked message) _ bad_message 0 (omega arith) _ _ (marker_is message) (marker_isnt message)
      (on_wrong v handed handed_on (wrong_length message) _ bad_message length_at (omega arith) _ _ (length_is message) (length_isnt message)
      (on_test v (eqb (get_or message type_at 0) update_type) _ (tells_eq (get_or message type_at 0) update_type) bad_message type_at _
      (λ b. handed (cond b (inner_check message) (refused bad_message type_at)))
      (on_wrong v handed handed_on (ltb (length message) (attributes_size_at message + 2)) _ bad_message withdrawn_size_at (omega arith) _ _
      (ltb-true (length message) (attributes_size_at message + 2)) (λ e h. omega (arith, ltb-false (length message) (attributes_size_at message + 2) e))
      (on_wrong v handed handed_on (ltb (length message) (announced_at message)) _ bad_message (attributes_size_at message) (omega arith) _ _
      (ltb-true (length message) (announced_at message)) (λ e h. omega (arith, ltb-false (length message) (announced_at message) e))
      (on_prefixes v (λ a. made (and_then a announced)) (then_on v made announced hands_on) w (withdrawn_part message) withdrawn_at _
      (on_prefixes v made hands_on w (announced_part message) (announced_at message) rest next (length (announced_part message)) 0)
      (length (withdrawn_part message)) 0)))
      (handed_on bad_message type_at (omega arith)))))
    where
      announced : Answer
      announced = part_check w (announced_part message) (announced_at message)

      parts : Answer
      parts = and_then (part_check w (withdrawn_part message) withdrawn_at) announced

      handed : Answer → v.Seen
      handed a = made (and_then a parts)

      handed_on : (m p : ℕ) → 0 < m → On v (shows m p) (handed (refused m p))
      handed_on = then_on v made parts hands_on

-- the size that is counted tells whether the final set is too large
pub tells_many : (w : ℕ) → w % 8 ≡ 0 → (message : List ℕ) → Bytes message → (port : ℕ) → 0 < port → (rows : List ℕ) (n : ℕ) → GoodOrder w (capacity rows) (row_at rows) n
    → Tells (leb (final_count w (row_at rows) n (withdrawn_in w message) (announced_in w message)) (capacity rows)) (TooMany w message port rows n)
tells_many w whole message bytes port some rows n order =
    let k = final_count w (row_at rows) n (withdrawn_in w message) (announced_in w message) in
    let sized : (S : Routes) → GoodFor w (capacity rows) (row_at rows) n S → Size (final_set w port (withdrawn_in w message) (announced_in w message) S) k =
    λ S g. final_sized w whole (capacity rows) (row_at rows) n S g message bytes port some in
    record {
      fine = λ e many. omega (arith, leb-true k (capacity rows) e, many order.0 order.1 k (sized order.0 order.1));
      wrong = λ e S g m size. omega (arith, leb-false k (capacity rows) e, size_one (final_set w port (withdrawn_in w message) (announced_in w message) S) m k size (sized S g));
    }

pub withdrawal_refuses : (w : ℕ) (list lent : List ℕ) → Refuses (withdrawal_checks w list lent) 0 lent (write_message w list lent)
unfolding write_message
withdrawal_refuses w list lent =
    let out = withdrawal_of w (route_at list) (route_count list) in
    let size = length out in
    let room = leb size most_size && leb size (length lent) in
    let next = cond room (outcome (accepted size) (over out lent)) (outcome (refused no_room 0) lent) in
    on_list (writing 0 lent) (λ c. cond (eqb c.number 0) next (outcome c lent)) (λ m p some. refusal_on lent next m p some) w list _
    (on_test (writing 0 lent) room _ (tells_and (leb size most_size) (leb size (length lent)) _ _ (tells_le size most_size) (tells_le size (length lent))) no_room 0 done
    (λ b. cond b (outcome (accepted size) (over out lent)) (outcome (refused no_room 0) lent)) (on_accepted 0 lent size (over out lent)) (on_refused lent no_room 0))
