-- Counts compared and stored one by one, and the first checks. Assumes nothing.
use mathlib.Core.Path.{◌≡◌, refl, sym, ap, ◌∙◌}
use mathlib.Core.Logic.{◌⊎◌, inl, inr}
use mathlib.Core.Bool.{Bool, true, false, not}
use mathlib.Core.List.{List}
use Prim.Native.Nat.{ℕ, ◌+◌, ◌≤◌, ◌<◌}
use native.Mathlib.Omega.{arith}
use native.Mathlib.Numerals.{add-one}
use lib.Dec.{eqb}
use lib.ListN.{length, get_or, set, take}
use lib.Seq.{take-suc, take_all, set-get_or, length-take-le}
use borrow.Author.Tests.{eq-eqb, ne_eqb, le-leb, lt-leb}
use Rattle.promise.specs.Over.{Outcome, outcome, over}
use Rattle.promise.proofs.Over.{over_push, over_all}
use Rattle.lists.specs.Below.{some_below}
use Rattle.lists.proofs.Below.{some_below_lem}
use Rattle.refusals.specs.Refusals.{wrong_port, no_room, not_in_order, accepted, keeping_at, checked}
use Rattle.refusals.specs.declared.Answer.{Answer}
use Rattle.refusals.specs.declared.Refusal.{Refusal}
use Rattle.refusals.proofs.Numbers.{number_ne0}
use Rattle.std.proofs.Common.{Result, Ok, Err, is_err}
use Rattle.routes.specs.Check.{is_port}
use Rattle.table_rules.specs.Rows.{Layout}
use Rattle.table_rules.specs.Check.{is_good}
use Rattle.table_update.specs.Calls.{keeping}
use Rattle.message_rules.specs.Check.{message_check}
use Rattle.message_check.specs.Checked.{checked_of}
use Rattle.message_check.specs.Checked.{Checked}
use Rattle.message_check.proofs.Whole.{checked_answer}
use Rattle.count_rules.specs.Tally.{ports, differ}
use Rattle.count_rules.specs.Counted.{message_fault, counts_of, make_counts, passed, first_check, recounted}
use Rattle.count_rules.proofs.Counted.{length_counts, first_passed}
use Rattle.count_rules.proofs.History.{MadeAfresh, made_afresh}

-- comparing

module _ (counts fresh : List ℕ) where
  -- none of the counts below a port differs
  abbrev pub same_below : ℕ → Bool
  same_below port = some_below (λ p. not (eqb (get_or counts p 0) (get_or fresh p 0))) port

  pub same_first : same_below 0 ≡ false
  unfolding some_below
  same_first = refl

  pub same_next : (port : ℕ) → same_below port ≡ false → get_or counts port 0 ≡ get_or fresh port 0 → same_below (port + 1) ≡ false
  unfolding some_below
  same_next port e h = ap same_below (add-one port) ∙ rw (eq-eqb (get_or counts port 0) (get_or fresh port 0) h, e)

  pub differ_here : (port : ℕ) → port < ports → (get_or counts port 0 ≡ get_or fresh port 0 → ⊥) → differ counts fresh ≡ true
  differ_here port h ne =
      some_below_lem (λ p. not (eqb (get_or counts p 0) (get_or fresh p 0))) ports port h (ap not (ne_eqb (get_or counts port 0) (get_or fresh port 0) ne))

-- storing

module _ (fresh lent : List ℕ) where
  pub stored_next : (port : ℕ) → port < length fresh → port < length lent
      → set (over (take port fresh) lent) port (get_or fresh port 0) ≡ over (take (port + 1) fresh) lent
  stored_next port h l =
      over_push (take port fresh) lent (get_or fresh port 0) port (length-take-le port fresh (omega arith)) l
      ∙ ap (λ (xs : List ℕ). over xs lent) (sym (take-suc fresh port 0 h) ∙ ap (λ (k : ℕ). take k fresh) (sym (add-one port)))

  -- the same count need not be stored
  pub skipped_next : (counts : List ℕ) (port : ℕ) → port < length fresh → port < length lent → counts ≡ over (take port fresh) lent
      → get_or counts port 0 ≡ get_or fresh port 0 → counts ≡ over (take (port + 1) fresh) lent
  skipped_next counts port h l is same =
      sym (set-get_or counts port 0)
      ∙ ap (λ (v : ℕ). set counts port v) same
      ∙ ap (λ (xs : List ℕ). set xs port (get_or fresh port 0)) is
      ∙ stored_next port h l

  pub stored_all : (port : ℕ) → length fresh ≤ port → over (take port fresh) lent ≡ over fresh lent
  stored_all port h = ap (λ (xs : List ℕ). over xs lent) (take_all port fresh h)

-- fresh counts of a table in good order
pub made_good : (L : Layout (List ℕ)) (w : ℕ) (words : List ℕ) (n : ℕ) (lent : List ℕ) → length lent ≡ ports
    → is_good w (L.room words) (L.get words) n ≡ true → {made : Answer} {fresh : List ℕ} → outcome made fresh ≡ make_counts L w words n lent
    → fresh ≡ counts_of L w words n
unfolding make_counts
made_good L w words n lent size good is =
    let done : (make_counts L w words n lent).lent ≡ over (counts_of L w words n) lent = rw (le-leb ports (length lent) (omega (arith, size)), good) in
    ap (λ (o : Outcome Answer). o.lent) is ∙ done ∙ over_all (counts_of L w words n) lent (length_counts w (L.get words) n ∙ sym size)

-- the counts after an update of the rows
module _ (L : Layout (List ℕ)) (w : ℕ) (done : Answer) (words counts : List ℕ) where
  pub settle_kept : (done.number ≡ 0 → ⊥) → outcome done counts ≡ outcome done (recounted L w (outcome done words) counts)
  settle_kept wrong = sym (rw (ne_eqb done.number 0 wrong) refl)

  pub settle_done : done.number ≡ 0 → {left : List ℕ} → left ≡ over (counts_of L w words done.count) counts
      → outcome done left ≡ outcome done (recounted L w (outcome done words) counts)
  settle_done z is = ap (outcome done) is ∙ sym (rw (eq-eqb done.number 0 z) refl)

-- the first checks

module _ (L : Layout (List ℕ)) (w : ℕ) (fault : Answer) (words : List ℕ) (n : ℕ) (counts : List ℕ) where
  pub first_short : length counts < ports → keeping no_room n ≡ first_check L w fault words n counts
  unfolding first_check
  first_short short = sym (rw (lt-leb ports (length counts) short) refl)

  module _ (room : ports ≤ length counts) where
    module _ (none : fault.number ≡ 0) (lent : List ℕ) (size : length lent ≡ ports) {made : Answer} {fresh : List ℕ}
        (is : outcome made fresh ≡ make_counts L w words n lent) where
      pub first_disorder : (made.number ≡ 0 → ⊥) → keeping not_in_order n ≡ first_check L w fault words n counts
      unfolding first_check make_counts
      first_disorder wrong = by (is_good w (L.room words) (L.get words) n) refl
        where
          by : (b : Bool) → is_good w (L.room words) (L.get words) n ≡ b → keeping not_in_order n ≡ first_check L w fault words n counts
          by true fine =
              let e : (make_counts L w words n lent).answer.number ≡ 0 =
              rw (le-leb ports (length lent) (omega (arith, size)), fine) refl in
              absurd (wrong (ap (λ (o : Outcome Answer). o.answer.number) is ∙ e))
          by false fine = sym (rw (le-leb ports (length counts) room, eq-eqb fault.number 0 none, fine) refl)

      module _ (z : made.number ≡ 0) where
        afresh : MadeAfresh L w words n lent
        afresh = made_afresh L w words n lent (sym (ap (λ (o : Outcome Answer). o.answer.number) is) ∙ z)

        fresh_is : fresh ≡ counts_of L w words n
        fresh_is = made_good L w words n lent size afresh.good is

        pub first_stale : differ counts fresh ≡ true → keeping not_in_order n ≡ first_check L w fault words n counts
        unfolding first_check
        first_stale t =
            sym (rw (le-leb ports (length counts) room, eq-eqb fault.number 0 none, afresh.good, sym (ap (differ counts) fresh_is) ∙ t) refl)

        pub first_accepted : differ counts fresh ≡ false → accepted n ≡ first_check L w fault words n counts
        first_accepted t =
            sym (first_passed L w fault words n counts (record { room = room; none = none; good = afresh.good; same = sym (ap (differ counts) fresh_is) ∙ t }))

  -- with no room for the counts, and with no refusal of the arguments, any answer will do
  pub first_any : ((fault.number ≡ 0 → ⊥) × length counts < ports) ⊎ (fault.number ≡ 0)
      → first_check L w (accepted n) words n counts ≡ first_check L w fault words n counts
  unfolding first_check
  first_any (inl (wrong, short)) = rw (lt-leb ports (length counts) short)
  first_any (inr none) = rw (eq-eqb fault.number 0 none)

-- what a message is refused with

module _ (message : List ℕ) (port n : ℕ) (checked : Checked) (checked-is : checked ≡ checked_of 32 message) where
  answer_is : checked.answer ≡ message_check 32 message
  answer_is = ap (λ (c : Checked). c.answer) checked-is ∙ checked_answer 32 message

  pub fault_message : (checked.answer.number ≡ 0 → ⊥) → keeping_at checked.answer.number checked.answer.place n ≡ message_fault 32 message port n
  fault_message ne =
      ap (λ (a : Answer). keeping_at a.number a.place n) answer_is
      ∙ sym (rw (ne_eqb (message_check 32 message).number 0 (λ z. ne (ap (λ (a : Answer). a.number) answer_is ∙ z))))

  module _ (fine : checked.answer.number ≡ 0) where
    is_fine : eqb (message_check 32 message).number 0 ≡ true
    is_fine = eq-eqb (message_check 32 message).number 0 (ap (λ (a : Answer). a.number) (sym answer_is) ∙ fine)

    pub fault_none : is_port port ≡ true → accepted n ≡ message_fault 32 message port n
    fault_none ported = sym (rw (is_fine, ported))

    pub fault_port : is_port port ≡ false → keeping_at wrong_port 0 n ≡ message_fault 32 message port n
    fault_port ported = sym (rw (is_fine, ported))

-- whether a call was refused, by its answer

pub refused_ne0 : (x : Result Unit Refusal) → is_err x ≡ true → (checked x).number ≡ 0 → ⊥
refused_ne0 (Ok u) t z = cc
refused_ne0 (Err r) t z = number_ne0 r.fault z

pub fine_0 : (x : Result Unit Refusal) → is_err x ≡ false → (checked x).number ≡ 0
fine_0 (Ok u) f = refl
fine_0 (Err r) f = cc

-- what the first checks returned, as an answer
pub passed_told : (n : ℕ) (x : Result Unit Refusal) → keeping_at (checked x).number (checked x).place n ≡ passed n x
passed_told n (Ok u) = refl
passed_told n (Err r) = refl
