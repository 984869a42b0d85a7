-- The check of a part refuses exactly at its first prefix at fault: RULES, "Order of the checks". Assumes nothing.
use mathlib.Core.Path.{◌≡◌, refl, sym, ap, ◌∙◌}
use mathlib.Core.Logic.{◌⊎◌, inl, inr, ⊎_elim}
use mathlib.Core.Bool.{true, false}
use mathlib.Core.List.{List}
use Prim.Native.Nat.{ℕ, zero, suc, ◌+◌, ◌≤◌}
use native.Mathlib.Omega.{arith}
use native.Mathlib.Nat.{sub-zero}
use lib.Dec.{eqb, ltb}
use lib.ListN.{length}
use borrow.Author.Count.{below_none, below_more}
use borrow.Author.Tests.{ne_eqb, eqb-true, eqb-false, ltb-true, ltb-false}
use Rattle.lists.proofs.Tests.{way}
use Rattle.refusals.specs.Refusals.{long_prefix, bad_message, refused, accepted}
use Rattle.refusals.specs.declared.Answer.{Answer}
use Rattle.octets.specs.Octets.{prefix_at}
use Rattle.octets.specs.Taken.{taken_at}
use Rattle.message_rules.specs.Check.{fault_of, part_from, part_check}
use Rattle.message_rules.specs.Faults.{offset_of, NoneFaulty, FirstPrefix, WholePart}
use Rattle.message_rules.specs.Theorems.{PartRefused, PartDone, FaultyAt}
use Rattle.message_rules.proofs.Walk.{part_after, part_next, part_whole, part_end}
use Rattle.message_rules.proofs.Offsets.{offset_none, offset_more, fault_number, sound_whole, sound_taken}

abbrev pub number_of : Answer → ℕ
number_of a = a.number

-- where the first i prefixes have no fault, the check goes on at the next
part_from_lem : (w : ℕ) (part : List ℕ) (from i : ℕ) → NoneFaulty w part i → part_check w part from ≡ part_after w part from (offset_of part i)
part_from_lem w part from zero none =
    ap (λ (k : ℕ). part_from w part from k 0) (sym (sub-zero (length part))) ∙ ap (part_after w part from) (sym (offset_none part))
part_from_lem w part from (suc i) none =
    let at = offset_of part i in
    let s : i + 1 ≡ suc i = omega arith in
    part_from_lem w part from i (λ j h. none j (omega arith))
    ∙ part_whole w part from at (prefix_at w part at) (sound_taken w part at (none i (omega arith)))
    ∙ ap (part_after w part from) (sym (offset_more part i) ∙ ap (offset_of part) s)

pub part_fine : (w : ℕ) (part : List ℕ) (from n : ℕ) → WholePart w part n → part_check w part from ≡ accepted 0
part_fine w part from n ok = part_from_lem w part from n ok.none ∙ part_end w part from (offset_of part n) (omega (arith, ok.end))

pub part_first : (w : ℕ) (part : List ℕ) (from m p : ℕ) → (m ≡ 0 → ⊥) → FirstPrefix w part m p → part_check w part from ≡ refused m (from + p)
part_first w part from m p wrong r =
    let fault = fault_of (taken_at w part p) in
    part_from_lem w part from r.number r.none ∙ ap (part_after w part from) r.place ∙ part_next w part from p r.within
    ∙ rw (ne_eqb fault 0 (λ z. wrong (sym r.here ∙ z))) (ap (λ (x : ℕ). refused x (from + p)) r.here)

-- a part is whole, or some prefix of it is the first at fault
abbrev Walked : ℕ → List ℕ → Type 0
Walked w part = ((n : ℕ) × WholePart w part n) ⊎ ((m : ℕ) × (p : ℕ) × (m ≡ 0 → ⊥) × FirstPrefix w part m p)

walked_from : (w : ℕ) (part : List ℕ) (k i : ℕ) → NoneFaulty w part i → offset_of part i ≤ length part → length part ≤ offset_of part i + k
    → Walked w part
walked_from w part zero i none begun left = inl (i, record { none = none; end = omega arith })
walked_from w part (suc k) i none begun left =
    let at : ℕ = offset_of part i in
    let fault : ℕ = fault_of (taken_at w part at) in
    ⊎_elim
    (λ (t : ltb at (length part) ≡ true).
    ⊎_elim
    (λ (u : eqb fault 0 ≡ true).
    let e = eqb-true fault 0 u in
    let next = offset_more part i in
    walked_from w part k (i + 1) (below_more (λ j. fault_of (taken_at w part (offset_of part j)) ≡ 0) i none e)
    (omega (arith, next, (sound_whole w part at e).uncut)) (omega (arith, next)))
    (λ (u : eqb fault 0 ≡ false).
    inr (
      fault,
      at,
      eqb-false fault 0 u,
      record { number = i; place = refl; within = ltb-true at (length part) t; here = refl; none = none },
    ))
    (way (eqb fault 0)))
    (λ (t : ltb at (length part) ≡ false). inl (i, record { none = none; end = omega (arith, ltb-false at (length part) t) }))
    (way (ltb at (length part)))

walked : (w : ℕ) (part : List ℕ) → Walked w part
walked w part =
    let z = offset_none part in
    walked_from w part (length part) 0 (below_none (λ j. fault_of (taken_at w part (offset_of part j)) ≡ 0)) (omega (arith, z)) (omega (arith, z))

-- what the check of a part answers says what the part is

pub part_whole_if : (w : ℕ) (part : List ℕ) (from : ℕ) → (part_check w part from).number ≡ 0 → (n : ℕ) × WholePart w part n
part_whole_if w part from e = go (walked w part)
  where
    go : Walked w part → (n : ℕ) × WholePart w part n
    go (inl x) = x
    go (inr x) = absurd (x.2 (sym (ap number_of (part_first w part from x.0 x.1 x.2 x.3)) ∙ e))

pub part_faulty_if : (w : ℕ) (part : List ℕ) (from m p : ℕ) → (m ≡ 0 → ⊥) → part_check w part from ≡ refused m p → FaultyAt w part from m p
part_faulty_if w part from m p wrong e = go (walked w part)
  where
    go : Walked w part → FaultyAt w part from m p
    go (inl x) = absurd (wrong (ap number_of (sym e ∙ part_fine w part from x.0 x.1)))
    go (inr x) =
        let q : refused x.0 (from + x.1) ≡ refused m p = sym (part_first w part from x.0 x.1 x.2 x.3) ∙ e in
        (x.1, sym (ap (λ (a : Answer). a.place) q), rw (ap number_of q) at x.3)

pub part_done : PartDone
part_done w part from = (λ e. part_whole_if w part from (ap number_of e), λ x. part_fine w part from x.0 x.1)

pub part_refused : PartRefused
part_refused w part from m p wrong = (
  λ e.
      let x = part_faulty_if w part from m (from + p) wrong e in
      let o : x.0 ≡ p = omega (arith, x.1) in
      rw o at x.2,
  part_first w part from m p wrong,
)

-- and there is no other number
pub part_number : (w : ℕ) (part : List ℕ) (from : ℕ)
    → (part_check w part from ≡ accepted 0) ⊎ (((part_check w part from).number ≡ long_prefix) ⊎ ((part_check w part from).number ≡ bad_message))
part_number w part from = go (walked w part)
  where
    go : Walked w part
        → (part_check w part from ≡ accepted 0) ⊎ (((part_check w part from).number ≡ long_prefix) ⊎ ((part_check w part from).number ≡ bad_message))
    go (inl x) = inl (part_fine w part from x.0 x.1)
    go (inr x) =
        let r = x.3 in
        let e : (part_check w part from).number ≡ fault_of (taken_at w part x.1) =
        ap number_of (part_first w part from x.0 x.1 x.2 r) ∙ sym r.here in
        ⊎_elim
        (λ (z : fault_of (taken_at w part x.1) ≡ 0). absurd (x.2 (sym r.here ∙ z)))
        (λ (y : (fault_of (taken_at w part x.1) ≡ long_prefix) ⊎ (fault_of (taken_at w part x.1) ≡ bad_message)).
        inr (⊎_elim (λ (a : fault_of (taken_at w part x.1) ≡ long_prefix). inl (e ∙ a)) (λ b. inr (e ∙ b)) y))
        (fault_number (taken_at w part x.1))
