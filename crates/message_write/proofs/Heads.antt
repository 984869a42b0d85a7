-- The head as it is stored, field by field. Assumes nothing.
use mathlib.Core.Path.{◌≡◌, refl, ap, ◌∙◌}
use mathlib.Core.List.{List, [], ◌∷◌, ◌++◌}
use Prim.Native.Nat.{ℕ, ◌+◌, ◌≤◌, ◌<◌}
use native.Mathlib.Omega.{arith}
use lib.ListN.{length, set, replicate, length-replicate, length-set, replicate-append-replicate}
use Rattle.promise.specs.Over.{over}
use Rattle.promise.proofs.Over.{over_push, length_over}
use Rattle.octets.specs.Bytes.{digits}
use Rattle.octets.specs.Octets.{stored}
use Rattle.octets.proofs.Store.{stored_over}
use Rattle.message_rules.specs.Message.{marker_size, length_at, type_at, withdrawn_size_at, withdrawn_at, least_size, update_type, ones}
use Rattle.message_rules.specs.Written.{head_of}
use Rattle.message_rules.proofs.Written.{length_head}

-- the first i bytes of the marker are stored
pub record Marking (message₀ message : List ℕ) (i : ℕ) : Type 0 where
  pub passed : i ≤ marker_size
  pub same : length message ≡ length message₀
  pub written : message ≡ over (replicate i ones) message₀

pub marking_none : (message : List ℕ) → Marking message message 0
marking_none message = record { passed = omega arith; same = refl; written = refl }

module _ (message₀ : List ℕ) (room : marker_size ≤ length message₀) (message : List ℕ) (i : ℕ) (so : Marking message₀ message i) where
  pub marking_more : i < marker_size → Marking message₀ (set message i ones) (i + 1)
  marking_more h = record {
    passed = omega arith;
    same = simp length-set so.same;
    written =
        ap (λ (m : List ℕ). set m i ones) so.written
        ∙ over_push (replicate i ones) message₀ ones i (length-replicate i ones) (omega arith)
        ∙ ap (λ (l : List ℕ). over l message₀) (replicate-append-replicate i 1 ones);
  }

  pub marking_all : marker_size ≤ i → message ≡ over (replicate marker_size ones) message₀
  marking_all h =
      let e : i ≡ marker_size = omega (arith, so.passed) in
      so.written ∙ ap (λ (j : ℕ). over (replicate j ones) message₀) e

-- the head, from the marker on: the length, the type, and the length of the withdrawn part
module _ (message₀ : List ℕ) (size : ℕ) where
  abbrev up_to_length : List ℕ
  up_to_length = replicate marker_size ones ++ digits 2 (least_size + size)

  length_up_to : length up_to_length ≡ type_at
  unfolding digits
  length_up_to = refl

  abbrev up_to_type : List ℕ
  up_to_type = up_to_length ++ (update_type ∷ [])

  length_up_to_type : length up_to_type ≡ withdrawn_size_at
  unfolding digits
  length_up_to_type = refl

  pub head_stored : withdrawn_at ≤ length message₀ → (marked sized message : List ℕ)
      → marked ≡ over (replicate marker_size ones) message₀ → sized ≡ stored marked length_at (digits 2 (least_size + size))
      → message ≡ stored (set sized type_at update_type) withdrawn_size_at (digits 2 size)
      → message ≡ over (head_of size) message₀
  head_stored room marked sized message one two three =
      let a : sized ≡ over up_to_length message₀ =
      two ∙ ap (λ (m : List ℕ). stored m length_at (digits 2 (least_size + size))) one
      ∙ stored_over (replicate marker_size ones) message₀ (digits 2 (least_size + size)) length_at refl in
      let b : set sized type_at update_type ≡ over up_to_type message₀ =
      ap (λ (m : List ℕ). set m type_at update_type) a ∙ over_push up_to_length message₀ update_type type_at length_up_to (omega arith) in
      three ∙ ap (λ (m : List ℕ). stored m withdrawn_size_at (digits 2 size)) b
      ∙ stored_over up_to_type message₀ (digits 2 size) withdrawn_size_at length_up_to_type

pub length_over_head : (message : List ℕ) (size : ℕ) → withdrawn_at ≤ length message → length (over (head_of size) message) ≡ length message
length_over_head message size room = length_over (head_of size) message (omega (arith, length_head size))
