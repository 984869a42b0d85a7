-- The answers of writing a message, from the answer of the list's check. Assumes nothing.
use mathlib.Core.Path.{◌≡◌, sym, ap, ap₂, ◌∙◌}
use mathlib.Core.List.{List, ◌++◌}
use Prim.Native.Nat.{ℕ, ◌+◌, ◌≤◌, ◌<◌}
use native.Mathlib.Omega.{arith}
use lib.ListN.{length}
use borrow.Author.Tests.{eq-eqb, ne_eqb, le-leb, lt-leb}
use Rattle.promise.specs.Over.{over, outcome}
use Rattle.refusals.specs.Refusals.{no_room, refused, accepted}
use Rattle.refusals.specs.declared.Answer.{Answer}
use Rattle.routes.specs.Routes.{route_at, route_count, ValidList, Words}
use Rattle.routes.specs.Check.{list_check}
use Rattle.routes.proofs.Check.{accepted_valid}
use Rattle.octets.specs.Bytes.{digits}
use Rattle.octets.specs.Octets.{stored}
use Rattle.octets.proofs.Store.{stored_over}
use Rattle.message_rules.specs.Message.{withdrawn_at, least_size, most_size}
use Rattle.message_rules.specs.Written.{prefixes_of, head_of, withdrawal_of, write_message}
use Rattle.message_rules.proofs.Written.{length_head, length_front, length_written}
use Rattle.message_write.specs.Needs.{PrefixesSize, FitsMessage}
use Rattle.message_write.proofs.Heads.{length_over_head}

module _ (w : ℕ) (list message : List ℕ) (checked : Answer) (is : checked ≡ list_check w list) where
  pub write_refused : (checked.number ≡ 0 → ⊥) → outcome checked message ≡ write_message w list message
  unfolding write_message
  write_refused n =
      ap (λ (a : Answer). outcome a message) is
      ∙ sym (rw (ne_eqb (list_check w list).number 0 (λ z. n (ap (λ (a : Answer). a.number) is ∙ z))))

  module _ (done : checked.number ≡ 0) where
    listed : (list_check w list).number ≡ 0
    listed = ap (λ (a : Answer). a.number) (sym is) ∙ done

    pub write_valid : Words w list → ValidList w (route_at list) (route_count list)
    write_valid fits = accepted_valid w list fits listed

    module _ (size : ℕ) (size_is : PrefixesSize w list size) where
      abbrev prefixes : List ℕ
      prefixes = prefixes_of w (route_at list) (route_count list)

      abbrev written : List ℕ
      written = withdrawal_of w (route_at list) (route_count list)

      length_front_is : length (head_of (length prefixes) ++ prefixes) ≡ withdrawn_at + size
      length_front_is = length_front w (route_at list) (route_count list) ∙ ap (λ (k : ℕ). withdrawn_at + k) (sym size_is.is)

      -- the message's bytes, by the size that was summed up
      length_is : length written ≡ least_size + size
      length_is = length_written w (route_at list) (route_count list) ∙ ap (λ (k : ℕ). least_size + k) (sym size_is.is)

      pub write_long : (a : Answer) → a ≡ refused no_room 0 → most_size < least_size + size → outcome a message ≡ write_message w list message
      unfolding write_message
      write_long a a_is h =
          ap (λ (x : Answer). outcome x message) a_is
          ∙ sym (rw (eq-eqb (list_check w list).number 0 listed, lt-leb (length written) most_size (omega (arith, length_is))))

      module _ (most : least_size + size ≤ most_size) where
        pub write_short : (a : Answer) → a ≡ refused no_room 0 → length message < least_size + size → outcome a message ≡ write_message w list message
        unfolding write_message
        write_short a a_is h =
            ap (λ (x : Answer). outcome x message) a_is
            ∙ sym (rw (eq-eqb (list_check w list).number 0 listed, le-leb (length written) most_size (omega (arith, length_is)), lt-leb (length written) (length message) (omega (arith, length_is))))

        module _ (room : least_size + size ≤ length message) (headed : List ℕ) (head_is : headed ≡ over (head_of size) message) where
          pub write_fits : Words w list → FitsMessage w list headed
          write_fits fits = record {
            valid = write_valid fits;
            room = omega (arith, ap length head_is ∙ length_over_head message size (omega arith), size_is.is);
          }

          pub write_all : (filled ended : List ℕ) (a : Answer) → filled ≡ stored headed withdrawn_at prefixes
              → ended ≡ stored filled (withdrawn_at + size) (digits 2 0) → a ≡ accepted (least_size + size)
              → outcome a ended ≡ write_message w list message
          unfolding write_message
          write_all filled ended a Filled-is ended_is a_is =
              let headed-is : headed ≡ over (head_of (length prefixes)) message =
              head_is ∙ ap (λ (n : ℕ). over (head_of n) message) size_is.is in
              let filled_over : filled ≡ over (head_of (length prefixes) ++ prefixes) message =
              Filled-is ∙ ap (λ (m : List ℕ). stored m withdrawn_at prefixes) headed-is
              ∙ stored_over (head_of (length prefixes)) message prefixes withdrawn_at (length_head (length prefixes)) in
              let ended-over : ended ≡ over written message =
              ended_is ∙ ap (λ (m : List ℕ). stored m (withdrawn_at + size) (digits 2 0)) filled_over
              ∙ stored_over (head_of (length prefixes) ++ prefixes) message (digits 2 0) (withdrawn_at + size) length_front_is in
              ap₂ outcome (a_is ∙ ap accepted (sym length_is)) ended-over
              ∙ sym (rw (eq-eqb (list_check w list).number 0 listed, le-leb (length written) most_size (omega (arith, length_is)), le-leb (length written) (length message) (omega (arith, length_is))))
