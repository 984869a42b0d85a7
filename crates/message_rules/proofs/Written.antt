-- The bytes of the message that withdraws a list, field by field. Assumes nothing.
use mathlib.Core.Path.{◌≡◌, refl, ap, ◌∙◌, subst}
use mathlib.Core.List.{List, [], ◌∷◌, ◌++◌, append_assoc, append-nil}
use Prim.Native.Nat.{ℕ, ◌+◌, ◌≤◌, ◌<◌}
use native.Mathlib.Omega.{arith}
use lib.ListN.{length, take, drop, replicate, length-append}
use lib.Seq.{take_at, drop_at}
use Rattle.lists.proofs.InOrder.{in_order_split}
use Rattle.routes.specs.declared.Route.{Route}
use Rattle.octets.specs.Bytes.{digits}
use Rattle.octets.specs.Octets.{prefix_size, prefix_octets}
use Rattle.octets.proofs.Bytes.{length_digits}
use Rattle.octets.proofs.Prefixes.{length_prefix_octets}
use Rattle.message_rules.specs.Message.{marker_size, withdrawn_at, least_size, most_size, update_type, ones}
use Rattle.message_rules.specs.Written.{prefixes_of, head_of, withdrawal_of}
use Rattle.message_rules.specs.Theorems.{message_of, Withdrawal, WrittenBytes}
use Rattle.message_rules.proofs.Made.{length_made, past_head, from_attributes, size_field, parts_read}

pub length_head : (size : ℕ) → length (head_of size) ≡ withdrawn_at
unfolding digits
length_head size = refl

module _ (w : ℕ) (R : ℕ → Route) (n : ℕ) where
  abbrev prefixes : List ℕ
  prefixes = prefixes_of w R n

  abbrev size : ℕ
  size = length prefixes

  pub length_front : length (head_of size ++ prefixes) ≡ withdrawn_at + size
  length_front = length-append (head_of size) prefixes ∙ ap (λ (k : ℕ). k + size) (length_head size)

  pub length_written : length (withdrawal_of w R n) ≡ least_size + size
  length_written = length-append (head_of size ++ prefixes) (digits 2 0) ∙ omega (arith, length_front, length_digits 2 0)

  -- it has no attributes, and announces nothing
  abbrev pub made : List ℕ
  made = message_of prefixes [] []

  pub made_written : made ≡ withdrawal_of w R n
  made_written =
      let alone : size + 0 + 0 ≡ size = omega arith in
      append-nil _ ∙ append-nil _
      ∙ ap (λ (k : ℕ). replicate marker_size ones ++ digits 2 (least_size + k) ++ (update_type ∷ []) ++ digits 2 size ++ prefixes ++ digits 2 0) alone

  -- prefix i among the others
  pub prefix_in : (i : ℕ) → i < n
      → drop (length (prefixes_of w R i)) prefixes ≡ prefix_octets w (R i).value (R i).len ++ drop (length (prefixes_of w R (i + 1))) prefixes
  prefix_in i h =
      let own = prefix_octets w (R i).value (R i).len in
      let after = drop (length (prefixes_of w R (i + 1))) prefixes in
      ap (drop (length (prefixes_of w R i))) (in_order_split (λ (r : Route). prefix_octets w r.value r.len) R i n h)
      ∙ drop_at (prefixes_of w R i) (own ++ after) (length (prefixes_of w R i)) refl

  -- and in the message
  prefix_made : (i : ℕ) → i < n
      → take (prefix_size (R i).len) (drop (withdrawn_at + length (prefixes_of w R i)) made) ≡ prefix_octets w (R i).value (R i).len
  prefix_made i h =
      let own : List ℕ = prefix_octets w (R i).value (R i).len in
      let front : List ℕ = prefixes_of w R i in
      let after : List ℕ = drop (length (prefixes_of w R (i + 1))) prefixes in
      let rest : List ℕ = digits 2 0 ++ ([] ++ []) in
      let split : prefixes ++ rest ≡ front ++ (own ++ (after ++ rest)) =
      ap (λ (l : List ℕ). l ++ rest) (in_order_split (λ (r : Route). prefix_octets w r.value r.len) R i n h)
      ∙ append_assoc front (own ++ after) rest ∙ ap (λ (l : List ℕ). front ++ l) (append_assoc own after rest) in
      ap (take (prefix_size (R i).len))
      (past_head prefixes [] [] (length front) ∙ ap (drop (length front)) split ∙ drop_at front (own ++ (after ++ rest)) (length front) refl)
      ∙ take_at own (after ++ rest) (prefix_size (R i).len) (length_prefix_octets w (R i).value (R i).len)

  last_made : drop (withdrawn_at + size) made ≡ 0 ∷ 0 ∷ []
  unfolding digits
  last_made = from_attributes prefixes [] []

  pub made_fits : least_size + size ≤ most_size → least_size + (size + 0 + 0) ≤ most_size
  made_fits fits = omega arith

pub written_bytes : WrittenBytes
written_bytes w R n fits =
    let parts : List ℕ = prefixes_of w R n in
    let enough = made_fits w R n fits in
    let head = (parts_read parts [] [] enough).0 in
    subst (λ (message : List ℕ). Withdrawal w R n message) (made_written w R n)
    (record {
      long = omega (arith, length_made parts [] []);
      marked = head.marked;
      sized = head.sized.lent;
      typed = head.typed;
      withdrawn = size_field parts [] [] enough;
      each = prefix_made w R n;
      last = last_made w R n;
    })
