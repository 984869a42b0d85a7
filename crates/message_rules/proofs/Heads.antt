-- The head of a message: what each of its tests says, what an accepted one says of the bytes, and the answer to each fault. Assumes
-- nothing.
use mathlib.Core.Path.{◌≡◌, refl, sym, ap, ◌∙◌}
use mathlib.Core.Logic.{◌⊎◌, inl, inr}
use mathlib.Core.Bool.{Bool, true, false, not, cond, ◌||◌, true≢false}
use mathlib.Core.List.{List}
use Prim.Native.Nat.{ℕ, ◌+◌, ◌≤◌}
use native.Mathlib.Omega.{arith}
use lib.Dec.{eqb, ltb}
use lib.ListN.{length, get_or}
use borrow.Author.Tests.{eq-eqb, ne_eqb, eqb-true, lt-ltb, le-ltb, ltb-false}
use Rattle.lists.proofs.Tests.{way, neither, test_no}
use Rattle.lists.proofs.Below.{none_below, passing}
use Rattle.refusals.specs.Refusals.{bad_message, refused, accepted, and_then}
use Rattle.refusals.specs.declared.Answer.{Answer}
use Rattle.message_rules.specs.Message.{marker_size, length_at, type_at, withdrawn_size_at, withdrawn_at, least_size, most_size, update_type, ones, unmarked, field_at, attributes_size_at, announced_at, withdrawn_part, announced_part}
use Rattle.message_rules.specs.Check.{wrong_length, inner_check, head_check, part_check, message_check, Fits}
use Rattle.message_rules.specs.Faults.{Marked, RightLength, Headed}
use Rattle.message_rules.specs.Theorems.{MessageUnheaded, HeadDone}

not-false : (b : Bool) → not b ≡ false → b ≡ true
not-false true e = refl
not-false false e = sym e

-- a test that cannot be false is true
test_yes : (b : Bool) → (b ≡ false → ⊥) → b ≡ true
test_yes true n = refl
test_yes false n = absurd (n refl)

module _ (message : List ℕ) where
  abbrev other : ℕ → Bool
  other i = not (eqb (get_or message i 0) ones)

  -- the marker

  marked_each : unmarked message ≡ false → Marked message
  marked_each e i h = eqb-true (get_or message i 0) ones (not-false (eqb (get_or message i 0) ones) (none_below other marker_size i e h))

  marked_all : Marked message → unmarked message ≡ false
  marked_all all =
      test_no (unmarked message) (λ t.
      let p = passing other marker_size t in
      let e : other p.which ≡ false = rw (eq-eqb (get_or message p.which 0) ones (all p.which p.below)) in
      true≢false (sym p.passes ∙ e))

  marked_not : (Marked message → ⊥) → unmarked message ≡ true
  marked_not n = test_yes (unmarked message) (λ t. n (marked_each t))

  -- the length

  right_each : wrong_length message ≡ false → RightLength message
  right_each e =
      let f : ℕ = field_at message length_at in
      let a = neither (ltb f least_size || ltb most_size f) (not (eqb f (length message))) e in
      let b = neither (ltb f least_size) (ltb most_size f) a.0 in
      record {
        least = ltb-false f least_size b.0;
        most = ltb-false most_size f b.1;
        lent = eqb-true f (length message) (not-false (eqb f (length message)) a.1);
      }

  right_all : RightLength message → wrong_length message ≡ false
  right_all ok =
      let f : ℕ = field_at message length_at in
      rw (le-ltb f least_size ok.least, le-ltb most_size f ok.most, eq-eqb f (length message) ok.lent)

  right_not : (RightLength message → ⊥) → wrong_length message ≡ true
  right_not n = test_yes (wrong_length message) (λ t. n (right_each t))

  -- the stated length is that of the bytes lent
  pub right_length : wrong_length message ≡ false → (length message ≤ most_size) × (field_at message length_at ≡ length message)
  right_length e = let ok = right_each e in (omega (arith, ok.most, ok.lent), ok.lent)

  -- an accepted head has no fault
  pub head_headed : (head_check message).number ≡ 0 → Headed message
  unfolding head_check inner_check
  head_headed z =
      go (way (ltb (length message) least_size)) (way (unmarked message)) (way (wrong_length message)) (way (eqb (get_or message type_at 0) update_type))
      (way (ltb (length message) (attributes_size_at message + 2))) (way (ltb (length message) (announced_at message)))
    where
      go : (ltb (length message) least_size ≡ true) ⊎ (ltb (length message) least_size ≡ false)
          → (unmarked message ≡ true) ⊎ (unmarked message ≡ false)
          → (wrong_length message ≡ true) ⊎ (wrong_length message ≡ false)
          → (eqb (get_or message type_at 0) update_type ≡ true) ⊎ (eqb (get_or message type_at 0) update_type ≡ false)
          → (ltb (length message) (attributes_size_at message + 2) ≡ true) ⊎ (ltb (length message) (attributes_size_at message + 2) ≡ false)
          → (ltb (length message) (announced_at message) ≡ true) ⊎ (ltb (length message) (announced_at message) ≡ false)
          → Headed message
      go (inl a) b c d e f = absurd (omega (arith, rw a at z))
      go (inr a) (inl b) c d e f = absurd (omega (arith, rw (a, b) at z))
      go (inr a) (inr b) (inl c) d e f = absurd (omega (arith, rw (a, b, c) at z))
      go (inr a) (inr b) (inr c) (inr d) e f = absurd (omega (arith, rw (a, b, c, d) at z))
      go (inr a) (inr b) (inr c) (inl d) (inl e) f = absurd (omega (arith, rw (a, b, c, d, e) at z))
      go (inr a) (inr b) (inr c) (inl d) (inr e) (inl f) = absurd (omega (arith, rw (a, b, c, d, e, f) at z))
      go (inr a) (inr b) (inr c) (inl d) (inr e) (inr f) = record {
        long = ltb-false (length message) least_size a;
        marked = marked_each b;
        sized = right_each c;
        typed = eqb-true (get_or message type_at 0) update_type d;
        withdrawn = ltb-false (length message) (attributes_size_at message + 2) e;
        announced = ltb-false (length message) (announced_at message) f;
      }

  -- and one without a fault is accepted
  pub headed_head : Headed message → head_check message ≡ accepted 0
  unfolding head_check inner_check
  headed_head h =
      rw (le-ltb (length message) least_size h.long, marked_all h.marked, right_all h.sized, eq-eqb (get_or message type_at 0) update_type h.typed, le-ltb (length message) (attributes_size_at message + 2) h.withdrawn, le-ltb (length message) (announced_at message) h.announced)

  pub head_fits : (head_check message).number ≡ 0 → Fits message
  head_fits z =
      let h = head_headed z in
      record { least = h.long; most = omega (arith, h.sized.most, h.sized.lent); withdrawn = h.withdrawn; announced = h.announced }

  -- the number of a head is 0 or 14
  pub head_number : (head_check message ≡ accepted 0) ⊎ ((head_check message).number ≡ bad_message)
  unfolding head_check inner_check
  head_number =
      go (ltb (length message) least_size) (unmarked message) (wrong_length message) (eqb (get_or message type_at 0) update_type)
      (ltb (length message) (attributes_size_at message + 2)) (ltb (length message) (announced_at message))
    where
      answer : Bool → Bool → Bool → Bool → Bool → Bool → Answer
      answer a b c d e f =
          cond a (refused bad_message 0)
          (cond b (refused bad_message 0)
          (cond c (refused bad_message length_at)
          (cond d
          (cond e (refused bad_message withdrawn_size_at)
          (cond f (refused bad_message (attributes_size_at message)) (accepted 0)))
          (refused bad_message type_at))))

      go : (a b c d e f : Bool) → (answer a b c d e f ≡ accepted 0) ⊎ ((answer a b c d e f).number ≡ bad_message)
      go true b c d e f = inr refl
      go false true c d e f = inr refl
      go false false true d e f = inr refl
      go false false false false e f = inr refl
      go false false false true true f = inr refl
      go false false false true false true = inr refl
      go false false false true false false = inl refl

pub head_done : HeadDone
head_done message = (λ e. head_headed message (ap (λ (a : Answer). a.number) e), headed_head message)

-- the head of an accepted message is accepted
pub message_head : (w : ℕ) (message : List ℕ) → (message_check w message).number ≡ 0 → (head_check message).number ≡ 0
unfolding message_check
message_head w message z = by (eqb (head_check message).number 0) refl z
  where
    rest : Answer
    rest = and_then (part_check w (withdrawn_part message) withdrawn_at) (part_check w (announced_part message) (announced_at message))

    by : (b : Bool) → eqb (head_check message).number 0 ≡ b → (cond b rest (head_check message)).number ≡ 0 → (head_check message).number ≡ 0
    by true e h = eqb-true (head_check message).number 0 e
    by false e h = h

pub message_fits : (w : ℕ) (message : List ℕ) → (message_check w message).number ≡ 0 → Fits message
message_fits w message z = head_fits message (message_head w message z)

-- a refused head is what the message is refused for
pub message_unheaded : MessageUnheaded
unfolding message_check head_check inner_check
message_unheaded w message = (
  λ short. rw (lt-ltb (length message) least_size short),
  λ long other. rw (le-ltb (length message) least_size long, marked_not message other),
  λ long marked wrong. rw (le-ltb (length message) least_size long, marked_all message marked, right_not message wrong),
  λ long marked sized other.
      rw (le-ltb (length message) least_size long, marked_all message marked, right_all message sized, ne_eqb (get_or message type_at 0) update_type other),
  λ long marked sized typed past.
      rw (le-ltb (length message) least_size long, marked_all message marked, right_all message sized, eq-eqb (get_or message type_at 0) update_type typed, lt-ltb (length message) (attributes_size_at message + 2) past),
  λ long marked sized typed within past.
      rw (le-ltb (length message) least_size long, marked_all message marked, right_all message sized, eq-eqb (get_or message type_at 0) update_type typed, le-ltb (length message) (attributes_size_at message + 2) within, lt-ltb (length message) (announced_at message) past),
)
