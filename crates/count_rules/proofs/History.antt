-- Counts made afresh stay in step through any history: RULES, "Addresses per port". Assumes nothing.
use mathlib.Core.Path.{◌≡◌, refl, sym, ap, ap₂, ◌∙◌, subst}
use mathlib.Core.Logic.{◌⊎◌, inl, inr}
use mathlib.Core.Bool.{true, false}
use mathlib.Core.List.{List, [], ◌∷◌}
use Prim.Native.Nat.{ℕ, ◌%◌, ◌≤◌}
use native.Mathlib.Omega.{arith}
use lib.Dec.{eqb, leb}
use lib.ListN.{length, get_or, take}
use borrow.Author.Tests.{eqb-true, eqb-false, leb-true}
use Rattle.promise.specs.Over.{Outcome, over}
use Rattle.promise.proofs.Over.{over_taken, over_past, length_over}
use Rattle.lists.proofs.Tests.{way}
use Rattle.refusals.specs.declared.Answer.{Answer}
use Rattle.routes.specs.Bounds.{most_routes}
use Rattle.table_rules.specs.Rows.{Layout, Stores}
use Rattle.table_rules.specs.Holds.{GoodOrder}
use Rattle.table_rules.specs.Check.{is_good}
use Rattle.table_rules.proofs.Good.{check_is_good}
use Rattle.table_update.specs.History.{Table}
use Rattle.message_calls.specs.History.{Event, EventFits, outcome_on, after_event, ran_events}
use Rattle.message_calls.proofs.Theorems.{event_is}
use Rattle.count_rules.specs.Tally.{ports, total}
use Rattle.count_rules.specs.Counted.{Counted, fault_of, counts_of, make_counts}
use Rattle.count_rules.specs.History.{Book, left_by, AllEventsFit, counted_in, ran_counted}
use Rattle.count_rules.specs.Theorems.{InStep, InStepIsPlain, Kept, CountedHistoryIs}
use Rattle.count_rules.proofs.OfTable.{total_is}
use Rattle.count_rules.proofs.Counted.{length_counts, front_same, plain_fault, Passed, Refused, first_fault_lem, counted_passed, counted_refused, counted_done, Way, refused_first, refused_later, done, which_way, refused_kept, only_changed}

-- counts made afresh

pub record MadeAfresh (L : Layout (List ℕ)) (w : ℕ) (words : List ℕ) (n : ℕ) (counts : List ℕ) : Type 0 where
  pub room : ports ≤ length counts
  pub good : is_good w (L.room words) (L.get words) n ≡ true
  pub left : (make_counts L w words n counts).lent ≡ over (counts_of L w words n) counts

pub made_afresh : (L : Layout (List ℕ)) (w : ℕ) (words : List ℕ) (n : ℕ) (counts : List ℕ) → (make_counts L w words n counts).answer.number ≡ 0
    → MadeAfresh L w words n counts
unfolding make_counts
made_afresh L w words n counts z = by (way (leb ports (length counts))) (way (is_good w (L.room words) (L.get words) n)) z
  where
    by : (leb ports (length counts) ≡ true) ⊎ (leb ports (length counts) ≡ false)
        → (is_good w (L.room words) (L.get words) n ≡ true) ⊎ (is_good w (L.room words) (L.get words) n ≡ false)
        → (make_counts L w words n counts).answer.number ≡ 0 → MadeAfresh L w words n counts
    by (inr a) b e = absurd (omega (arith, rw a at e))
    by (inl a) (inr b) e = absurd (omega (arith, rw (a, b) at e))
    by (inl a) (inl b) e = record { room = leb-true ports (length counts) a; good = b; left = rw (a, b) }

module _ (L : Layout (List ℕ)) (w : ℕ) where
  -- counts in step leave the decision to the update without counts
  pub in_step_is_plain : InStepIsPlain L w
  in_step_is_plain b S e room step good = by (way (eqb (fault_of w n e).number 0))
    where
      words : List ℕ
      words = b.table.words

      n : ℕ
      n = b.table.count

      fine : is_good w (L.room words) (L.get words) n ≡ true
      fine = (check_is_good w (L.room words) (L.get words) n).1 (S, good)

      by : (eqb (fault_of w n e).number 0 ≡ true) ⊎ (eqb (fault_of w n e).number 0 ≡ false)
          → ((counted_in L w b e).answer ≡ (outcome_on L w words n e).answer) × ((counted_in L w b e).rows ≡ (outcome_on L w words n e).lent)
      by (inl t) =
          let p : Passed L w (fault_of w n e) words n b.counts = record {
            room = room;
            none = eqb-true (fault_of w n e).number 0 t;
            good = fine;
            same = front_same b.counts (counts_of L w words n) step;
          } in
          let is = counted_passed L w words n b.counts e p in
          (ap (λ (o : Counted). o.answer) is, ap (λ (o : Counted). o.rows) is)
      by (inr t) =
          let wrong = eqb-false (fault_of w n e).number 0 t in
          let first = first_fault_lem L w (fault_of w n e) words n b.counts room wrong in
          let r : Refused L w (fault_of w n e) words n b.counts = record {
            wrong = λ z. wrong (sym (ap (λ (a : Answer). a.number) first) ∙ z);
            n_is = λ z. ap (λ (a : Answer). a.count) first ∙ z;
          } in
          let is = counted_refused L w words n b.counts e r in
          let plain = plain_fault L w words n e wrong in (
            ap (λ (o : Counted). o.answer) is ∙ first ∙ sym (ap (λ (o : Outcome Answer). o.answer) plain),
            ap (λ (o : Counted). o.rows) is ∙ sym (ap (λ (o : Outcome Answer). o.lent) plain),
          )

  -- what holds of a book through a history
  record Sound (b : Book) : Type 0 where
    room : ports ≤ length b.counts
    step : InStep L w b
    good : GoodOrder w (L.room b.table.words) (L.get b.table.words) b.table.count

  module _ (st : Stores w L) (whole : w % 8 ≡ 0) (few : (words : List ℕ) → L.room words ≤ most_routes) where
    module _ (b : Book) (e : Event) (fits : EventFits w e) (sound : Sound b) where
      abbrev o : Counted
      o = counted_in L w b e

      after_table : (left_by o).table ≡ after_event L w b.table e
      after_table =
          let k = in_step_is_plain b sound.good.0 e sound.room sound.step sound.good.1 in
          ap₂ (λ (ws : List ℕ) (m : ℕ). record { words = ws; count = m }) k.1 (ap (λ (a : Answer). a.count) k.0)

      after_good : GoodOrder w (L.room o.rows) (L.get o.rows) o.answer.count
      after_good =
          let g = event_is L w st whole b.table sound.good.0 e fits sound.good.1 in
          subst (λ (u : Table). GoodOrder w (L.room u.words) (L.get u.words) u.count) (sym after_table) (_, g)

      counts_after : (length o.counts ≡ length b.counts) × InStep L w (left_by o)
      counts_after = by (which_way L w b.table.words b.table.count b.counts e)
        where
          kept : (o.answer.number ≡ 0 → ⊥) → (length o.counts ≡ length b.counts) × InStep L w (left_by o)
          kept wrong =
              let k = refused_kept L w b.table.words b.table.count b.counts e wrong in (
                ap length k.counts_are,
                ap (take ports) k.counts_are ∙ sound.step ∙ sym (ap₂ (counts_of L w) k.rows_are k.n_is),
              )

          fresh : List ℕ
          fresh = counts_of L w o.rows o.answer.count

          size : length fresh ≡ ports
          size = length_counts w (L.get o.rows) o.answer.count

          by : Way L w b.table.words b.table.count b.counts e → (length o.counts ≡ length b.counts) × InStep L w (left_by o)
          by (refused_first r) =
              kept (λ z. r.wrong (sym (ap (λ (x : Counted). x.answer.number) (counted_refused L w b.table.words b.table.count b.counts e r)) ∙ z))
          by (refused_later p later) =
              kept (λ z. later (sym (ap (λ (x : Counted). x.answer.number) (counted_passed L w b.table.words b.table.count b.counts e p)) ∙ z))
          by (done p z) =
              let is = counted_done L w b.table.words b.table.count b.counts e p z in
              let rows_are = ap (λ (x : Counted). x.rows) is in
              let n_is = ap (λ (x : Counted). x.answer.count) is in
              let left : o.counts ≡ over fresh b.counts =
              ap (λ (x : Counted). x.counts) is ∙ sym (ap₂ (λ (ws : List ℕ) (m : ℕ). over (counts_of L w ws m) b.counts) rows_are n_is) in
              let within : length fresh ≤ length b.counts = subst (λ (m : ℕ). m ≤ length b.counts) (sym size) sound.room in (
                ap length left ∙ length_over fresh b.counts within,
                ap (take ports) left ∙ over_taken fresh b.counts ports size,
              )

      sound_after : Sound (left_by o)
      sound_after = record { room = omega (arith, counts_after.0, sound.room); step = counts_after.1; good = after_good }

    keeps : (b : Book) (es : List Event) → AllEventsFit w es → Sound b → Kept L w b.table b.counts es (ran_counted L w b es)
    unfolding ran_counted ran_events
    keeps b [] fits sound = record {
      in_step = sound.step;
      totals = ap total sound.step ∙ total_is w (L.room b.table.words) (L.get b.table.words) b.table.count sound.good.0 sound.good.1 (few b.table.words);
      size = refl;
      past = λ i h. refl;
      as_plain = refl;
    }
    keeps b (e ∷ es) fits sound =
        let k = keeps (left_by (counted_in L w b e)) es fits.1 (sound_after b e fits.0 sound) in
        record {
          in_step = k.in_step;
          totals = k.totals;
          size = k.size ∙ (counts_after b e fits.0 sound).0;
          past = λ i h. k.past i h ∙ (only_changed L w b.table.words b.table.count b.counts e).past i h;
          as_plain = k.as_plain ∙ ap (λ (t : Table). ran_events L w t es) (after_table b e fits.0 sound);
        }

    pub counted_history_is : CountedHistoryIs L w
    counted_history_is t lent es fits z =
        let m = made_afresh L w t.words t.count lent z in
        let fresh : List ℕ = counts_of L w t.words t.count in
        let size : length fresh ≡ ports = length_counts w (L.get t.words) t.count in
        let within : length fresh ≤ length lent = subst (λ (k : ℕ). k ≤ length lent) (sym size) m.room in
        let book : Book = record { table = t; counts = (make_counts L w t.words t.count lent).lent } in
        let sound : Sound book = record {
          room = subst (λ (xs : List ℕ). ports ≤ length xs) (sym m.left) (subst (λ (k : ℕ). ports ≤ k) (sym (length_over fresh lent within)) m.room);
          step = ap (take ports) m.left ∙ over_taken fresh lent ports size;
          good = (check_is_good w (L.room t.words) (L.get t.words) t.count).0 m.good;
        } in
        let k = keeps book es fits sound in
        record {
          in_step = k.in_step;
          totals = k.totals;
          size = k.size ∙ ap length m.left ∙ length_over fresh lent within;
          past = λ i h. k.past i h ∙ ap (λ (xs : List ℕ). get_or xs i 0) m.left ∙ over_past fresh lent 0 i (subst (λ (j : ℕ). j ≤ i) (sym size) h);
          as_plain = k.as_plain;
        }
