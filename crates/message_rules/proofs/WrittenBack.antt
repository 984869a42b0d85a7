-- The message that withdraws a list is accepted, withdraws just its prefixes in its order, and announces none. Assumes nothing.
use mathlib.Core.Path.{◌≡◌, refl, ap, ◌∙◌, subst}
use mathlib.Core.List.{List, [], ◌++◌}
use Prim.Native.Nat.{ℕ, zero, suc, ◌+◌, ◌%◌, ◌≤◌, ◌<◌}
use native.Mathlib.Omega.{arith}
use lib.ListN.{length, drop, length-append}
use Rattle.lists.specs.Numbered.{list_of, in_order}
use Rattle.lists.proofs.Numbered.{list_of_same}
use Rattle.prefix.specs.Prefixes.{prefix}
use Rattle.refusals.specs.Refusals.{accepted}
use Rattle.routes.specs.Routes.{ValidList}
use Rattle.routes.specs.declared.Route.{Route}
use Rattle.octets.specs.Octets.{prefix_size, len_at, prefix_at, prefix_octets}
use Rattle.octets.specs.Taken.{taken_at}
use Rattle.octets.specs.Taken.{Taken}
use Rattle.std.proofs.Common.{Ok}
use Rattle.octets.proofs.Prefixes.{length_prefix_octets, len_back, prefix_back, taken_back}
use Rattle.message_rules.specs.Message.{prefixes_from, prefixes_in, withdrawn_in, announced_in}
use Rattle.message_rules.specs.Check.{fault_of, message_check}
use Rattle.message_rules.specs.Faults.{offset_of, WholePart}
use Rattle.message_rules.specs.Written.{prefixes_of}
use Rattle.message_rules.specs.Theorems.{WrittenReads}
use Rattle.message_rules.proofs.Offsets.{prefixes_are}
use Rattle.message_rules.proofs.Refused.{message_done}
use Rattle.message_rules.proofs.Made.{parts_read}
use Rattle.message_rules.proofs.Written.{made, made_written, made_fits, prefix_in}

-- the prefixes of the list, read again from where they stand

module _ (w : ℕ) (R : ℕ → Route) (n : ℕ) where
  abbrev part : List ℕ
  part = prefixes_of w R n

  abbrev after : ℕ → List ℕ
  after i = drop (length (prefixes_of w R (i + 1))) part

  offset_written : (i : ℕ) → i ≤ n → offset_of part i ≡ length (prefixes_of w R i)
  unfolding offset_of in_order
  offset_written zero h = refl
  offset_written (suc i) h =
      let at = offset_written i (omega arith) in
      let len : len_at part (offset_of part i) ≡ (R i).len =
      rw at (len_back w (R i).value (R i).len part (length (prefixes_of w R i)) (after i) (prefix_in w R n i (omega arith))) in
      omega (arith, at, ap (λ (l : ℕ). prefix_size l) len, length_prefix_octets w (R i).value (R i).len, length-append (prefixes_of w R i) (prefix_octets w (R i).value (R i).len))

  stands : (i : ℕ) → i < n → drop (offset_of part i) part ≡ prefix_octets w (R i).value (R i).len ++ after i
  stands i h = rw (offset_written i (omega arith)) (prefix_in w R n i h)

  module _ (whole : w % 8 ≡ 0) (ok : ValidList w R n) where
    taken_written : (i : ℕ) → i < n → taken_at w part (offset_of part i) ≡ Ok (prefix (R i).value (R i).len)
    taken_written i h =
        taken_back w (R i).value (R i).len part (offset_of part i) (after i) (stands i h) whole (ok.each i h).prefix

    whole_written : WholePart w part n
    whole_written = record {
      none = λ i h. ap (λ (t : Taken). fault_of t) (taken_written i h);
      end = offset_written n (omega arith);
    }

    prefixes_written : prefixes_in w part ≡ list_of (λ i. prefix (R i).value (R i).len) n 0
    prefixes_written =
        prefixes_are w part n whole_written
        ∙ list_of_same (λ i. prefix_at w part (offset_of part i)) (λ i. prefix (R i).value (R i).len) n 0
        (λ i low high.
        prefix_back w (R i).value (R i).len part (offset_of part i) (after i) (stands i (omega arith)) whole (ok.each i (omega arith)).prefix)

-- nothing is announced
whole_empty : (w : ℕ) → WholePart w [] 0
unfolding offset_of
whole_empty w = record { none = λ j h. absurd (omega arith); end = refl }

prefixes_empty : (w : ℕ) → prefixes_in w [] ≡ []
unfolding prefixes_from
prefixes_empty w = refl

pub written_reads : WrittenReads
written_reads w R n whole ok fits =
    let parts = parts_read (prefixes_of w R n) [] [] (made_fits w R n fits) in
    subst
    (λ (message : List ℕ).
    (message_check w message ≡ accepted 0) × (withdrawn_in w message ≡ list_of (λ i. prefix (R i).value (R i).len) n 0)
    × (announced_in w message ≡ []))
    (made_written w R n) (
      (message_done w (made w R n)).1 (parts.0, (n, rw parts.1 (whole_written w R n whole ok)), (0, rw parts.2 (whole_empty w))),
      ap (prefixes_in w) parts.1 ∙ prefixes_written w R n whole ok,
      ap (prefixes_in w) parts.2 ∙ prefixes_empty w,
    )
