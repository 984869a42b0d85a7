-- A history on a boundary that follows the definitions is the history that they define. Assumes nothing.
use mathlib.Core.Path.{◌≡◌, refl, ap, ap₂, subst, sym, ◌∙◌}
use mathlib.Core.Bool.{Bool, cond}
use mathlib.Core.List.{List, [], ◌∷◌}
use Prim.Native.Nat.{ℕ, ◌^◌}
use native.Mathlib.Omega.{arith}
use lib.Dec.{eqb}
use lib.ListN.{length, get_or, take}
use lib.Seq.{get_or-take}
use borrow.Author.Tests.{ne_eqb}
use Rattle.promise.specs.Over.{Outcome}
use Rattle.trie.specs.Routes.{Routes, no_routes}
use Rattle.refusals.specs.Reply.{Reply}
use Rattle.refusals.specs.declared.Answer.{Answer}
use Rattle.table_rows.specs.Words.{capacity, row_at, five_words}
use Rattle.table_rows.proofs.Words.{words_stores}
use Rattle.table_rules.specs.Holds.{GoodFor}
use Rattle.table_rules.proofs.Good.{placed→held}
use Rattle.table_update.specs.History.{Table}
use Rattle.table_update.proofs.FillLoop.{placed_none}
use Rattle.message_calls.specs.History.{Event, port_left, EventFits, outcome_on}
use Rattle.message_calls.proofs.Theorems.{event_is}
use Rattle.count_rules.specs.Tally.{ports, total}
use Rattle.count_rules.specs.Counted.{Counted, counts_of, make_counts, counted_on}
use Rattle.count_rules.specs.History.{Book, left_by, AllEventsFit, ran_counted}
use Rattle.count_rules.specs.Theorems.{InStep}
use Rattle.count_rules.proofs.OfTable.{count_is}
use Rattle.count_rules.proofs.Counted.{Way, refused_first, refused_later, done, which_way, counted_refused, counted_passed, counted_done, refused_kept}
use Rattle.count_rules.proofs.History.{counted_history_is}
use Rattle.maftehon.specs.Reply.{Booked, replied_book}
use Rattle.demands.specs.Boundary.{Boundary, result}
use Rattle.demands.specs.History.{Step, left, Happened, LentOn, empty_table, at_end, counts_at_end, port_since, held_by}
use Rattle.demands.specs.Demands.{CountsAre}
use Rattle.demands.proofs.Follows.{Follows}

module _ (B : Boundary) (follows : Follows B) where
  -- what an update leaves, as the definitions say
  abbrev booked_as : Table → List ℕ → Event → Counted
  booked_as t counts e = counted_on five_words 32 t.words t.count counts e

  outcome_is : (t : Table) (s : Step) → B.update t.words t.count s.lent s.call s.outcome → s.outcome ≡ replied_book (booked_as t s.lent s.call)
  outcome_is t s may = follows.update t.words t.count s.lent s.call s.outcome may

  left_is : (t : Table) (s : Step) → B.update t.words t.count s.lent s.call s.outcome
      → left s ≡ (left_by (booked_as t s.lent s.call)).table
  left_is t s may = ap (λ (x : Booked). record { words = x.rows; count = result x.reply }) (outcome_is t s may)

  abbrev Good : Table → Routes → Type 0
  Good t S = GoodFor 32 (capacity t.words) (row_at t.words) t.count S

  -- an update changes the set as it says where it is accepted, whatever counts it was lent
  update_good : (t : Table) (S : Routes) (counts : List ℕ) (e : Event) → EventFits 32 e → Good t S
      → Good (left_by (booked_as t counts e)).table (λ q. cond (eqb (booked_as t counts e).answer.number 0) (port_left 32 e q (S q)) (S q))
  update_good t S counts e fits good = by (which_way five_words 32 t.words t.count counts e)
    where
      o : Counted
      o = booked_as t counts e

      plain : Outcome Answer
      plain = outcome_on five_words 32 t.words t.count e

      -- refused, it leaves the table as it was
      kept : (o.answer.number ≡ 0 → ⊥) → Good (left_by o).table (λ q. cond (eqb o.answer.number 0) (port_left 32 e q (S q)) (S q))
      kept wrong =
          let k = refused_kept five_words 32 t.words t.count counts e wrong in
          subst (λ (b : Bool). Good (left_by o).table (λ q. cond b (port_left 32 e q (S q)) (S q))) (sym (ne_eqb o.answer.number 0 wrong))
          (subst (λ (u : Table). Good u S) (sym (ap₂ (λ (ws : List ℕ) (m : ℕ). record { words = ws; count = m }) k.rows_are k.n_is)) good)

      by : Way five_words 32 t.words t.count counts e → Good (left_by o).table (λ q. cond (eqb o.answer.number 0) (port_left 32 e q (S q)) (S q))
      by (refused_first r) = kept (λ z. r.wrong (sym (ap (λ (x : Counted). x.answer.number) (counted_refused five_words 32 t.words t.count counts e r)) ∙ z))
      by (refused_later p later) = kept (λ z. later (sym (ap (λ (x : Counted). x.answer.number) (counted_passed five_words 32 t.words t.count counts e p)) ∙ z))
      by (done p z) =
          subst (λ (x : Counted). Good (left_by x).table (λ q. cond (eqb x.answer.number 0) (port_left 32 e q (S q)) (S q)))
          (sym (counted_done five_words 32 t.words t.count counts e p z)) (event_is five_words 32 (words_stores 32) refl t S e fits good)

  -- one step after the other
  pub lasts : (steps : List Step) (t : Table) (S : Routes) → Good t S → Happened B t steps → Good (at_end t steps) (λ q. port_since steps q (S q))
  lasts [] t S good h = good
  lasts (s ∷ steps) t S good h =
      let number_is = ap (λ (x : Booked). eqb x.reply.number 0) (outcome_is t s h.1) in
      lasts steps (left s) (λ q. cond (eqb s.outcome.reply.number 0) (port_left 32 s.call q (S q)) (S q))
      (subst (λ (u : Table). Good u (λ q. cond (eqb s.outcome.reply.number 0) (port_left 32 s.call q (S q)) (S q))) (sym (left_is t s h.1))
      (subst (λ (b : Bool). Good (left_by (booked_as t s.lent s.call)).table (λ q. cond b (port_left 32 s.call q (S q)) (S q))) (sym number_is)
      (update_good t S s.lent s.call h.0 good)))
      h.2

  pub held_is : (rows : List ℕ) (steps : List Step) → Happened B (empty_table rows) steps → Good (at_end (empty_table rows) steps) (held_by steps)
  held_is rows steps h =
      lasts steps (empty_table rows) no_routes
      (record {
        few = omega arith;
        routes = placed→held 32 (row_at rows) 0 no_routes (placed_none 32 (row_at rows));
        placed = placed_none 32 (row_at rows);
      }) h

  -- the calls of a history, and that they fit
  abbrev calls : List Step → List Event
  calls [] = []
  calls (s ∷ steps) = s.call ∷ calls steps

  calls_fit : (steps : List Step) (t : Table) → Happened B t steps → AllEventsFit 32 (calls steps)
  calls_fit [] t h = tt
  calls_fit (s ∷ steps) t h = (h.0, calls_fit steps (left s) h.2)

  -- lent on as last left, the counts are those that the definitions leave
  books : (steps : List Step) (b : Book) → Happened B b.table steps → LentOn b.counts steps
      → ran_counted five_words 32 b (calls steps) ≡ record { table = at_end b.table steps; counts = counts_at_end b.counts steps }
  unfolding ran_counted
  books [] b h l = refl
  books (s ∷ steps) b h l =
      let is : left_by (booked_as b.table b.counts s.call) ≡ record { table = left s; counts = s.outcome.counts } =
      ap (λ (counts : List ℕ). left_by (booked_as b.table counts s.call)) (sym l.0)
      ∙ sym (ap (λ (x : Booked). record { table = record { words = x.rows; count = result x.reply }; counts = x.counts }) (outcome_is b.table s h.1)) in
      ap (λ (c : Book). ran_counted five_words 32 c (calls steps)) is
      ∙ books steps (record { table = left s; counts = s.outcome.counts }) h.2 l.1

  pub counted_is : (t : Table) (S : Routes) (lent : List ℕ) (made : Outcome Reply) (steps : List Step) → Good t S
      → B.counts-make t.words t.count lent made → made.answer.number ≡ 0 → Happened B t steps → LentOn made.lent steps
      → CountsAre (λ q. port_since steps q (S q)) lent (counts_at_end made.lent steps)
  counted_is t S lent made steps good m z h l =
      let is = follows.counts-make t.words t.count lent made m in
      let fresh = make_counts five_words 32 t.words t.count lent in
      let left_over : fresh.lent ≡ made.lent = sym (ap (λ (o : Outcome Reply). o.lent) is) in
      let k = counted_history_is five_words 32 (words_stores 32) refl (λ words. omega arith) t lent (calls steps) (calls_fit steps t h) (sym (ap (λ (o : Outcome Reply). o.answer.number) is) ∙ z) in
      let end = ap (λ (counts : List ℕ). ran_counted five_words 32 (record { table = t; counts = counts }) (calls steps)) left_over
      ∙ books steps (record { table = t; counts = made.lent }) h l in
      let u = at_end t steps in
      let T : Routes = λ q. port_since steps q (S q) in
      let counts = counts_at_end made.lent steps in
      let step : take ports counts ≡ counts_of five_words 32 u.words u.count = subst (InStep five_words 32) end k.in_step in
      record {
        each = λ port low.
            sym (get_or-take ports counts port 0 low)
            ∙ ap (λ (xs : List ℕ). get_or xs port 0) step
            ∙ count_is 32 (capacity u.words) (row_at u.words) u.count T (lasts steps t S good h) (omega arith) port low;
        totals = subst (λ (b : Book). total (take ports b.counts) ≡ 2 ^ 32) end k.totals;
        size = subst (λ (b : Book). length b.counts ≡ length lent) end k.size;
        past = λ i high. subst (λ (b : Book). get_or b.counts i 0 ≡ get_or lent i 0) end (k.past i high);
      }
