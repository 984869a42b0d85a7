-- The updates with counts: which checks passed, what is kept, and which counts change. RULES, "Addresses per port". Assumes nothing.
use mathlib.Core.Path.{◌≡◌, refl, sym, ap, ◌∙◌, subst}
use mathlib.Core.Logic.{◌⊎◌, inl, inr}
use mathlib.Core.Bool.{Bool, true, false, cond, not}
use mathlib.Core.List.{List}
use Prim.Native.Nat.{ℕ, ◌-◌, ◌^◌, ◌≤◌, ◌<◌}
use native.Mathlib.Omega.{arith}
use lib.Dec.{eqb, leb}
use lib.ListN.{length, get_or, take}
use lib.Seq.{get_or-take, ext_get_or, length-take-le}
use borrow.Author.Tests.{eqb-true, eqb-false, eq-eqb, ne_eqb, leb-true, le-leb, lt-leb, not-true, not-false}
use Rattle.promise.specs.Over.{Outcome, outcome, over}
use Rattle.promise.proofs.Over.{over_front, over_past}
use Rattle.lists.proofs.Tests.{way, test_no}
use Rattle.lists.proofs.Below.{none_below, passing}
use Rattle.lists.proofs.Numbered.{length_list_of}
use Rattle.refusals.specs.Refusals.{wrong_port, not_in_order, accepted, keeping_at}
use Rattle.refusals.specs.declared.Answer.{Answer}
use Rattle.routes.specs.Check.{is_port, prefix_fault, route_fault}
use Rattle.routes.specs.Scan.{scan_of}
use Rattle.table_rules.specs.Rows.{Layout, Mem}
use Rattle.table_rules.specs.Check.{is_good}
use Rattle.table_update.specs.Calls.{keeping, leaves, announce_into, withdraw_into}
use Rattle.table_update.specs.History.{announcing, withdrawing, Table}
use Rattle.table_update.proofs.History.{refused_keeps}
use Rattle.runs_rules.specs.TableRuns.{table_routes}
use Rattle.message_rules.specs.Message.{withdrawn_in, announced_in}
use Rattle.message_rules.specs.Check.{message_check}
use Rattle.message_calls.specs.Apply.{applied_to, apply_into}
use Rattle.message_calls.specs.History.{Event, single, message, outcome_on}
use Rattle.message_calls.proofs.Theorems.{applied_whole}
use Rattle.count_rules.specs.Tally.{ports, addresses, table_counts, differ}
use Rattle.count_rules.specs.Counted.{Counted, counted, fault_of, counts_of, first_check, recounted, counted_on}
use Rattle.count_rules.specs.Theorems.{RoomFirst, RefusedKeeps as KeptRefused, AsBefore, OnlyChanged, Rewrites}

-- counts over the front of those lent

pub length_counts : (w : ℕ) (M : Mem) (n : ℕ) → length (table_counts w M n) ≡ ports
length_counts w M n = length_list_of (λ port. addresses (scan_of w (table_routes w M n) n) port (2 ^ w)) ports 0

-- counts that do not differ

module _ (counts fresh : List ℕ) where
  abbrev test : ℕ → Bool
  test port = not (eqb (get_or counts port 0) (get_or fresh port 0))

  pub same_at : differ counts fresh ≡ false → (port : ℕ) → port < ports → get_or counts port 0 ≡ get_or fresh port 0
  same_at none port h =
      eqb-true (get_or counts port 0) (get_or fresh port 0) (not-false (eqb (get_or counts port 0) (get_or fresh port 0)) (none_below test ports port none h))

  pub same_none : ((port : ℕ) → port < ports → get_or counts port 0 ≡ get_or fresh port 0) → differ counts fresh ≡ false
  same_none same =
      test_no (differ counts fresh)
      (λ t. let p = passing test ports t in
      let x : ℕ = get_or counts p.which 0 in
      let y : ℕ = get_or fresh p.which 0 in
      eqb-false x y (not-true (eqb x y) p.passes) (same p.which p.below))

  -- so the front of the one is the other
  pub same_front : differ counts fresh ≡ false → ports ≤ length counts → length fresh ≡ ports → take ports counts ≡ fresh
  same_front none room size =
      let l : length (take ports counts) ≡ ports = length-take-le ports counts room in
      ext_get_or 0 (take ports counts) fresh (l ∙ sym size)
      (λ i h. let b : i < ports = subst (λ (m : ℕ). i < m) l h in get_or-take ports counts i 0 b ∙ same_at none i b)

  pub front_same : take ports counts ≡ fresh → differ counts fresh ≡ false
  front_same e = same_none (λ port h. sym (get_or-take ports counts port 0 h) ∙ ap (λ (xs : List ℕ). get_or xs port 0) e)

-- what the arguments are refused with, a plain update is refused with

fault_count : (w n : ℕ) (e : Event) → (fault_of w n e).count ≡ n
fault_count w n (single (announcing q)) = refl
fault_count w n (single (withdrawing value len)) = refl
fault_count w n (message bytes port) = by (eqb (message_check w bytes).number 0) (is_port port)
  where
    by : (a b : Bool)
        → (cond a (cond b (accepted n) (keeping wrong_port n)) (keeping_at (message_check w bytes).number (message_check w bytes).place n)).count ≡ n
    by true true = refl
    by true false = refl
    by false b = refl

module _ (L : Layout (List ℕ)) (w : ℕ) where
  message_fault_lem : (bytes : List ℕ) (port : ℕ) (words : List ℕ) (n : ℕ) → ((fault_of w n (message bytes port)).number ≡ 0 → ⊥)
      → apply_into L w bytes port words n ≡ outcome (fault_of w n (message bytes port)) words
  unfolding apply_into
  message_fault_lem bytes port words n wrong = by (eqb (message_check w bytes).number 0) (is_port port) wrong
    where
      good : Bool
      good = is_good w (L.room words) (L.get words) n

      done : Outcome Answer
      done = applied_to L w port (withdrawn_in w bytes) (announced_in w bytes) words n

      refusal : Answer
      refusal = keeping_at (message_check w bytes).number (message_check w bytes).place n

      by : (a b : Bool) → ((cond a (cond b (accepted n) (keeping wrong_port n)) refusal).number ≡ 0 → ⊥)
          → cond a (cond b (cond good done (leaves not_in_order n words)) (leaves wrong_port n words)) (outcome refusal words)
          ≡ outcome (cond a (cond b (accepted n) (keeping wrong_port n)) refusal) words
      by true true no-fault = absurd (no-fault refl)
      by true false no-fault = refl
      by false b no-fault = refl

  pub plain_fault : (words : List ℕ) (n : ℕ) (e : Event) → ((fault_of w n e).number ≡ 0 → ⊥)
      → outcome_on L w words n e ≡ outcome (fault_of w n e) words
  unfolding announce_into withdraw_into
  plain_fault words n (single (announcing q)) wrong = rw (ne_eqb (route_fault w q 0) 0 wrong)
  plain_fault words n (single (withdrawing value len)) wrong = rw (ne_eqb (prefix_fault w value len 0) 0 wrong)
  plain_fault words n (message bytes port) wrong = message_fault_lem bytes port words n wrong

  -- a plain update that is refused leaves rows and n
  pub plain_refused : (words : List ℕ) (n : ℕ) (e : Event) → ((outcome_on L w words n e).answer.number ≡ 0 → ⊥)
      → ((outcome_on L w words n e).lent ≡ words) × ((outcome_on L w words n e).answer.count ≡ n)
  plain_refused words n (single c) wrong =
      let t : Table = record { words = words; count = n } in
      let k = refused_keeps L w t c (ne_eqb (outcome_on L w words n (single c)).answer.number 0 wrong) in
      (ap (λ (u : Table). u.words) k, ap (λ (u : Table). u.count) k)
  plain_refused words n (message bytes port) wrong = applied_whole L w bytes port words n wrong

  -- which way each of the first checks went

  module _ (fault : Answer) (words : List ℕ) (n : ℕ) (counts : List ℕ) where
    pub record Passed : Type 0 where
      pub room : ports ≤ length counts
      pub none : fault.number ≡ 0
      pub good : is_good w (L.room words) (L.get words) n ≡ true
      pub same : differ counts (counts_of L w words n) ≡ false

    pub record Refused : Type 0 where
      pub wrong : (first_check L w fault words n counts).number ≡ 0 → ⊥
      pub n_is : fault.count ≡ n → (first_check L w fault words n counts).count ≡ n

    pub first_passed : Passed → first_check L w fault words n counts ≡ accepted n
    unfolding first_check
    first_passed p = rw (le-leb ports (length counts) p.room, eq-eqb fault.number 0 p.none, p.good, p.same)

    -- what the arguments are refused with is handed on
    pub first_fault_lem : ports ≤ length counts → (fault.number ≡ 0 → ⊥) → first_check L w fault words n counts ≡ fault
    unfolding first_check
    first_fault_lem room wrong = rw (le-leb ports (length counts) room, ne_eqb fault.number 0 wrong)

    pub first_either : Passed ⊎ Refused
    unfolding first_check
    first_either =
        by (way (leb ports (length counts))) (way (eqb fault.number 0)) (way (is_good w (L.room words) (L.get words) n))
        (way (differ counts (counts_of L w words n)))
      where
        by : (leb ports (length counts) ≡ true) ⊎ (leb ports (length counts) ≡ false)
            → (eqb fault.number 0 ≡ true) ⊎ (eqb fault.number 0 ≡ false)
            → (is_good w (L.room words) (L.get words) n ≡ true) ⊎ (is_good w (L.room words) (L.get words) n ≡ false)
            → (differ counts (counts_of L w words n) ≡ true) ⊎ (differ counts (counts_of L w words n) ≡ false)
            → Passed ⊎ Refused
        by (inr a) b c d = inr (record { wrong = rw a (λ z. omega arith); n_is = rw a (λ e. refl) })
        by (inl a) (inr b) c d = inr (record { wrong = rw (a, b) (eqb-false fault.number 0 b); n_is = rw (a, b) (λ e. e) })
        by (inl a) (inl b) (inr c) d = inr (record { wrong = rw (a, b, c) (λ z. omega arith); n_is = rw (a, b, c) (λ e. refl) })
        by (inl a) (inl b) (inl c) (inl d) = inr (record { wrong = rw (a, b, c, d) (λ z. omega arith); n_is = rw (a, b, c, d) (λ e. refl) })
        by (inl a) (inl b) (inl c) (inr d) =
            inl (record { room = leb-true ports (length counts) a; none = eqb-true fault.number 0 b; good = c; same = d })

  module _ (words : List ℕ) (n : ℕ) (counts : List ℕ) (e : Event) where
    abbrev fault : Answer
    fault = fault_of w n e

    abbrev plain : Outcome Answer
    plain = outcome_on L w words n e

    pub counted_passed : Passed fault words n counts
        → counted_on L w words n counts e ≡ counted plain.answer plain.lent (recounted L w plain counts)
    unfolding counted_on
    counted_passed p = rw (first_passed fault words n counts p)

    pub counted_refused : Refused fault words n counts
        → counted_on L w words n counts e ≡ counted (first_check L w fault words n counts) words counts
    unfolding counted_on
    counted_refused r = rw (ne_eqb (first_check L w fault words n counts).number 0 r.wrong)

    -- accepted, and refused by the plain update
    pub counted_done : Passed fault words n counts → plain.answer.number ≡ 0
        → counted_on L w words n counts e ≡ counted plain.answer plain.lent (over (counts_of L w plain.lent plain.answer.count) counts)
    counted_done p z =
        counted_passed p
        ∙ ap (λ (b : Bool). counted plain.answer plain.lent (cond b (over (counts_of L w plain.lent plain.answer.count) counts) counts))
        (eq-eqb plain.answer.number 0 z)

    pub counted_plain : Passed fault words n counts → (plain.answer.number ≡ 0 → ⊥)
        → counted_on L w words n counts e ≡ counted plain.answer plain.lent counts
    counted_plain p z =
        counted_passed p
        ∙ ap (λ (b : Bool). counted plain.answer plain.lent (cond b (over (counts_of L w plain.lent plain.answer.count) counts) counts))
        (ne_eqb plain.answer.number 0 z)

    -- the three ways
    pub data Way : Type 0 where
      refused_first : Refused fault words n counts → Way
      refused_later : Passed fault words n counts → (plain.answer.number ≡ 0 → ⊥) → Way
      done : Passed fault words n counts → plain.answer.number ≡ 0 → Way

    pub which_way : Way
    which_way = by (first_either fault words n counts) (way (eqb plain.answer.number 0))
      where
        by : Passed fault words n counts ⊎ Refused fault words n counts
            → (eqb plain.answer.number 0 ≡ true) ⊎ (eqb plain.answer.number 0 ≡ false) → Way
        by (inr r) b = refused_first r
        by (inl p) (inl t) = done p (eqb-true plain.answer.number 0 t)
        by (inl p) (inr t) = refused_later p (eqb-false plain.answer.number 0 t)

pub room_first : (L : Layout (List ℕ)) (w : ℕ) → RoomFirst L w
unfolding counted_on first_check
room_first L w words n counts e short = rw (lt-leb ports (length counts) short)

pub refused_kept : (L : Layout (List ℕ)) (w : ℕ) → KeptRefused L w
refused_kept L w words n counts e wrong = by (which_way L w words n counts e)
  where
    o : Counted
    o = counted_on L w words n counts e

    is_such : (x : Counted) → o ≡ x → AsBefore words n counts x → AsBefore words n counts o
    is_such x is k = subst (AsBefore words n counts) (sym is) k

    by : Way L w words n counts e → AsBefore words n counts o
    by (refused_first r) =
        is_such _ (counted_refused L w words n counts e r) (record { rows_are = refl; n_is = r.n_is (fault_count w n e); counts_are = refl })
    by (refused_later p z) =
        let k = plain_refused L w words n e z in
        is_such _ (counted_plain L w words n counts e p z) (record { rows_are = k.0; n_is = k.1; counts_are = refl })
    by (done p z) = absurd (wrong (ap (λ (x : Counted). x.answer.number) (counted_done L w words n counts e p z) ∙ z))

pub only_changed : (L : Layout (List ℕ)) (w : ℕ) → OnlyChanged L w
only_changed L w words n counts e = by (which_way L w words n counts e)
  where
    o : Counted
    o = counted_on L w words n counts e

    kept : o.counts ≡ counts → Rewrites L w words n counts o
    kept k = record {
      only = λ port h same. ap (λ (xs : List ℕ). get_or xs port 0) k;
      past = λ i h. ap (λ (xs : List ℕ). get_or xs i 0) k;
    }

    by : Way L w words n counts e → Rewrites L w words n counts o
    by (refused_first r) = kept (ap (λ (x : Counted). x.counts) (counted_refused L w words n counts e r))
    by (refused_later p z) = kept (ap (λ (x : Counted). x.counts) (counted_plain L w words n counts e p z))
    by (done p z) = subst (Rewrites L w words n counts) (sym (counted_done L w words n counts e p z)) (record {
      only = λ port h same.
          over_front fresh counts 0 port (subst (λ (m : ℕ). port < m) (sym size) h)
          ∙ sym same ∙ sym (same_at counts (counts_of L w words n) p.same port h);
      past = λ i h. over_past fresh counts 0 i (subst (λ (m : ℕ). m ≤ i) (sym size) h);
    })
      where
        u : Outcome Answer
        u = outcome_on L w words n e

        fresh : List ℕ
        fresh = counts_of L w u.lent u.answer.count

        size : length fresh ≡ ports
        size = length_counts w (L.get u.lent) u.answer.count
