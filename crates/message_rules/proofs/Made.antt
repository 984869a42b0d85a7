-- A message made of a withdrawn part, attributes and an announced part: its head is accepted, and its parts are found. Assumes nothing.
use mathlib.Core.Path.{◌≡◌, refl, sym, ap, ap₂, ◌∙◌}
use mathlib.Core.List.{List, [], ◌∷◌, ◌++◌, append_assoc}
use Prim.Native.Nat.{ℕ, ◌+◌, ◌≤◌}
use native.Mathlib.Omega.{arith}
use lib.ListN.{length, get_or, take, drop, replicate, length-append, get_or-replicate, get_or-append}
use lib.Seq.{take_at, drop_at, drop-drop}
use Rattle.octets.specs.Bytes.{digits}
use Rattle.octets.proofs.Bytes.{length_digits, number_back}
use Rattle.message_rules.specs.Message.{marker_size, length_at, type_at, withdrawn_size_at, withdrawn_at, least_size, most_size, update_type, ones, field_at, withdrawn_size, attributes_size_at, announced_at, withdrawn_part, announced_part}
use Rattle.message_rules.specs.Faults.{Marked, Headed}
use Rattle.message_rules.specs.Theorems.{message_of, PartsRead}

module _ (withdrawn attributes announced : List ℕ) where
  abbrev message : List ℕ
  message = message_of withdrawn attributes announced

  abbrev size : ℕ
  size = least_size + (length withdrawn + length attributes + length announced)

  -- all that follows the withdrawn part
  abbrev rest : List ℕ
  rest = digits 2 (length attributes) ++ (attributes ++ announced)

  -- what stands from each field on

  from_length : drop length_at message
      ≡ digits 2 size ++ ((update_type ∷ []) ++ digits 2 (length withdrawn) ++ withdrawn ++ digits 2 (length attributes) ++ attributes ++ announced)
  unfolding digits
  from_length = refl

  type_made : get_or message type_at 0 ≡ update_type
  unfolding digits
  type_made = refl

  from_size : drop withdrawn_size_at message
      ≡ digits 2 (length withdrawn) ++ (withdrawn ++ digits 2 (length attributes) ++ attributes ++ announced)
  unfolding digits
  from_size = refl

  from_head : drop withdrawn_at message ≡ withdrawn ++ digits 2 (length attributes) ++ attributes ++ announced
  unfolding digits
  from_head = refl

  from_withdrawn : drop withdrawn_at message ≡ withdrawn ++ rest
  from_withdrawn =
      from_head ∙ append_assoc (withdrawn ++ digits 2 (length attributes)) attributes announced
      ∙ append_assoc withdrawn (digits 2 (length attributes)) (attributes ++ announced)

  -- and from an offset past the head on
  pub past_head : (k : ℕ) → drop (withdrawn_at + k) message ≡ drop k (withdrawn ++ rest)
  past_head k = sym (drop-drop k withdrawn_at message) ∙ ap (drop k) from_withdrawn

  pub from_attributes : drop (withdrawn_at + length withdrawn) message ≡ rest
  from_attributes = past_head (length withdrawn) ∙ drop_at withdrawn rest (length withdrawn) refl

  pub length_made : length message ≡ size
  unfolding digits
  length_made =
      omega (arith, length-append (withdrawn ++ digits 2 (length attributes) ++ attributes) announced, length-append (withdrawn ++ digits 2 (length attributes)) attributes, length-append withdrawn (digits 2 (length attributes)))

  marked_made : Marked message
  marked_made i h =
      get_or-append (replicate marker_size ones) (drop marker_size message) 0 i h ∙ get_or-replicate marker_size i ones 0 h

  -- the fields hold what they say, where two bytes hold the size of the message
  module _ (fits : size ≤ most_size) where
    length_field : field_at message length_at ≡ size
    length_field = number_back message length_at 2 size _ from_length (omega (arith, fits))

    pub size_field : withdrawn_size message ≡ length withdrawn
    size_field = number_back message withdrawn_size_at 2 (length withdrawn) _ from_size (omega (arith, fits))

    attributes_at : attributes_size_at message ≡ withdrawn_at + length withdrawn
    attributes_at = ap (λ (k : ℕ). withdrawn_at + k) size_field

    attributes_field : field_at message (attributes_size_at message) ≡ length attributes
    attributes_field =
        rw attributes_at (number_back message (withdrawn_at + length withdrawn) 2 (length attributes) (attributes ++ announced) from_attributes (omega (arith, fits)))

    announced_at_lem : announced_at message ≡ withdrawn_at + length withdrawn + 2 + length attributes
    announced_at_lem = ap₂ (λ (a b : ℕ). a + 2 + b) attributes_at attributes_field

    withdrawn_is : withdrawn_part message ≡ withdrawn
    withdrawn_is =
        ap₂ (λ (k : ℕ) (l : List ℕ). take k l) size_field from_withdrawn ∙ take_at withdrawn rest (length withdrawn) refl

    announced_is : announced_part message ≡ announced
    announced_is =
        let a : ℕ = withdrawn_at + length withdrawn in
        let d : List ℕ = digits 2 (length attributes) in
        let e : a + 2 + length attributes ≡ a + (2 + length attributes) = omega arith in
        let l : length (d ++ attributes) ≡ 2 + length attributes =
        length-append d attributes ∙ ap (λ (k : ℕ). k + length attributes) (length_digits 2 (length attributes)) in
        ap (λ (k : ℕ). drop k message) (announced_at_lem ∙ e) ∙ sym (drop-drop (2 + length attributes) a message)
        ∙ ap (drop (2 + length attributes)) (from_attributes ∙ sym (append_assoc d attributes announced))
        ∙ drop_at (d ++ attributes) announced (2 + length attributes) l

    headed_made : Headed message
    headed_made = record {
      long = omega (arith, length_made);
      marked = marked_made;
      sized = record {
        least = omega (arith, length_field);
        most = omega (arith, length_field, fits);
        lent = length_field ∙ sym length_made;
      };
      typed = type_made;
      withdrawn = omega (arith, attributes_at, length_made);
      announced = omega (arith, announced_at_lem, length_made);
    }

pub parts_read : PartsRead
parts_read withdrawn attributes announced fits =
    (headed_made withdrawn attributes announced fits, withdrawn_is withdrawn attributes announced fits, announced_is withdrawn attributes announced fits)
