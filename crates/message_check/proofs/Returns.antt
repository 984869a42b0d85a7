-- Each answer of the check of a message, by what the code knows where it returns. Assumes nothing.
use mathlib.Core.Path.{◌≡◌, sym, ap, ◌∙◌}
use mathlib.Core.Bool.{true, false, not, true≢false}
use mathlib.Core.List.{List}
use Prim.Native.Nat.{ℕ, ◌+◌, ◌≤◌, ◌<◌}
use native.Mathlib.Omega.{arith}
use lib.Dec.{eqb}
use lib.ListN.{length, get_or}
use borrow.Author.Tests.{eq-eqb, ne_eqb, lt-ltb, le-ltb}
use Rattle.lists.proofs.Below.{some_below_lem, passing}
use Rattle.lists.proofs.Tests.{test_no}
use Rattle.refusals.specs.Refusals.{bad_message, refused, accepted}
use Rattle.message_rules.specs.Message.{marker_size, length_at, type_at, withdrawn_size_at, withdrawn_at, least_size, update_type, ones, unmarked, field_at, attributes_size_at, announced_at, withdrawn_size}
use Rattle.message_rules.specs.Check.{wrong_length, inner_check, head_check}

module _ (message : List ℕ) where
  -- the marker

  pub marked_not : (i : ℕ) → i < marker_size → (get_or message i 0 ≡ ones → ⊥) → true ≡ unmarked message
  marked_not i h ne =
      let other : not (eqb (get_or message i 0) ones) ≡ true = rw (ne_eqb (get_or message i 0) ones ne) in
      sym (some_below_lem (λ j. not (eqb (get_or message j 0) ones)) marker_size i h other)

  pub marked_all : (i : ℕ) → marker_size ≤ i → ((j : ℕ) → j < i → get_or message j 0 ≡ ones) → false ≡ unmarked message
  marked_all i h all =
      sym (test_no (unmarked message) (λ t.
      let p = passing (λ j. not (eqb (get_or message j 0) ones)) marker_size t in
      let e : not (eqb (get_or message p.which 0) ones) ≡ false = rw (eq-eqb (get_or message p.which 0) ones (all p.which (omega (arith, p.below)))) in
      true≢false (sym p.passes ∙ e)))

  -- the head

  pub head_short : length message < least_size → refused bad_message 0 ≡ head_check message
  unfolding head_check
  head_short h = sym (rw (lt-ltb (length message) least_size h))

  module _ (long : least_size ≤ length message) where
    pub head_unmarked : unmarked message ≡ true → refused bad_message 0 ≡ head_check message
    unfolding head_check
    head_unmarked u = sym (rw (le-ltb (length message) least_size long, u))

    module _ (marked : unmarked message ≡ false) where
      pub head_wrong_length : wrong_length message ≡ true → refused bad_message length_at ≡ head_check message
      unfolding head_check
      head_wrong_length l = sym (rw (le-ltb (length message) least_size long, marked, l))

      module _ (sized : wrong_length message ≡ false) where
        pub head_inner : get_or message type_at 0 ≡ update_type → inner_check message ≡ head_check message
        unfolding head_check
        head_inner t = sym (rw (le-ltb (length message) least_size long, marked, sized, eq-eqb (get_or message type_at 0) update_type t))

        pub head_other : (get_or message type_at 0 ≡ update_type → ⊥) → refused bad_message type_at ≡ head_check message
        unfolding head_check
        head_other n = sym (rw (le-ltb (length message) least_size long, marked, sized, ne_eqb (get_or message type_at 0) update_type n))

  -- the inner lengths

  module _ (size end : ℕ) (size_is : size ≡ withdrawn_size message) (end_is : end ≡ withdrawn_at + size) where
    ends : end ≡ attributes_size_at message
    ends = end_is ∙ ap (λ (s : ℕ). withdrawn_at + s) size_is

    pub inner_withdrawn : length message < end + 2 → refused bad_message withdrawn_size_at ≡ inner_check message
    unfolding inner_check
    inner_withdrawn h = sym (rw (lt-ltb (length message) (attributes_size_at message + 2) (omega (arith, ends))))

    module _ (h : end + 2 ≤ length message) (attributes at : ℕ) (attributes-are : attributes ≡ field_at message end) (at_is : at ≡ end + 2 + attributes) where
      starts : at ≡ announced_at message
      starts = at_is ∙ ap (λ (a : ℕ). end + 2 + a) attributes-are ∙ ap (λ (e : ℕ). e + 2 + field_at message e) ends

      pub inner_attributes : length message < at → refused bad_message end ≡ inner_check message
      unfolding inner_check
      inner_attributes l =
          ap (refused bad_message) ends
          ∙ sym (rw (le-ltb (length message) (attributes_size_at message + 2) (omega (arith, ends)), lt-ltb (length message) (announced_at message) (omega (arith, starts))))

      pub inner_fine : at ≤ length message → accepted 0 ≡ inner_check message
      unfolding inner_check
      inner_fine l =
          sym (rw (le-ltb (length message) (attributes_size_at message + 2) (omega (arith, ends)), le-ltb (length message) (announced_at message) (omega (arith, starts))))
