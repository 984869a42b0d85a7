-- Demand 1 of the calls on a table. Assumes nothing.
use mathlib.Core.Path.{◌≡◌, refl, sym, ◌∙◌}
use mathlib.Core.Logic.{inl, inr}
use mathlib.Core.Bool.{Bool, true, false, cond, false≢true}
use mathlib.Core.List.{List}
use Prim.Native.Nat.{ℕ, zero, suc, ◌+◌, ◌-◌, ◌*◌, ◌<◌, ◌≤◌}
use native.Mathlib.Omega.{arith}
use lib.Dec.{eqb, leb, ltb}
use lib.ListN.{length}
use borrow.Author.Tests.{eqb-true, eqb-false, ltb-true, ltb-false}
use Rattle.promise.specs.Over.{outcome, over}
use Rattle.bits.specs.Bits.{bit_before}
use Rattle.refusals.specs.Refusals.{no_room, not_in_order, refused, accepted, found, lost}
use Rattle.routes.specs.Routes.{route_at, route_count, words_of}
use Rattle.table_rules.specs.Rows.{Mem, child}
use Rattle.table_rows.specs.Words.{capacity, row_at, five_words}
use Rattle.table_rules.specs.Holds.{GoodOrder}
use Rattle.table_rules.specs.Check.{is_good}
use Rattle.table_rules.specs.Save.{saved, save_into}
use Rattle.table_rules.specs.Lookup.{wrong_row, ends_at, better_of, walk, lookup_in}
use Rattle.refusals.specs.declared.found.Found.{Found}
use Rattle.table_rules.proofs.Good.{check_is_good}
use Rattle.table_lookup.specs.Good.{table_check}
use Rattle.table_update.specs.Calls.{built_from, build_into}
use Rattle.runs_rules.specs.Listing.{listed, write_runs}
use Rattle.runs_rules.specs.TableRuns.{table_routes, table_runs}
use Rattle.demands.specs.Lamp.{Verdict, shows, done, refuse}
use Rattle.demands.specs.Checks.{room_for, order_checks, build_checks, save_checks, row_checks, lookup_checks, runs_checks, table_runs_checks}
use Rattle.demands.proofs.Tells.{Tells, tells_le}
use Rattle.demands.proofs.Shown.{View, On, Refuses, RefusesOnly, alone, looking, writing, on_accepted, on_refused, on_test, on_test_then, on_whether}
use Rattle.demands.proofs.Listed.{on_list}
use Rattle.demands.proofs.OfLists.{refusal_on, room_on, runs_on}

-- the check of good order tells whether a table is in good order
tells_good : (w : ℕ) (rows : List ℕ) (n : ℕ) → Tells (is_good w (capacity rows) (row_at rows) n) (GoodOrder w (capacity rows) (row_at rows) n → ⊥)
tells_good w rows n =
    let iff = check_is_good w (capacity rows) (row_at rows) n in
    record {
      fine = λ e wrong. wrong (iff.0 e);
      wrong = λ e good. false≢true (sym e ∙ iff.1 good);
    }

-- "11", and then what follows, in any answer
module _ (v : View) (w : ℕ) (rows : List ℕ) (n : ℕ) (rest : Verdict) where
  pub on_order_then : (answer : Bool → v.Seen) → (GoodOrder w (capacity rows) (row_at rows) n → On v rest (answer true))
      → On v (shows not_in_order 0) (answer false) → On v (order_checks w rows n rest) (answer (is_good w (capacity rows) (row_at rows) n))
  on_order_then answer next shown =
      on_test_then v (is_good w (capacity rows) (row_at rows) n) _ (tells_good w rows n) not_in_order 0 rest answer
      (λ e. next ((check_is_good w (capacity rows) (row_at rows) n).0 e)) shown

  pub on_order : (answer : Bool → v.Seen) → On v rest (answer true) → On v (shows not_in_order 0) (answer false)
      → On v (order_checks w rows n rest) (answer (is_good w (capacity rows) (row_at rows) n))
  on_order answer next shown = on_order_then answer (λ _. next) shown

pub table_check_refuses : (w : ℕ) (rows : List ℕ) (n : ℕ) → RefusesOnly (order_checks w rows n done) (table_check w (capacity rows) (row_at rows) n)
table_check_refuses w rows n =
    on_order alone w rows n done (λ b. cond b (accepted 0) (refused not_in_order 0)) (record { exact = (refl, refl); kept = λ _. refl })
    (record { exact = (refl, refl); kept = λ _. refl })

pub save_refuses : (w : ℕ) (rows : List ℕ) (n : ℕ) (list : List ℕ)
    → Refuses (save_checks w rows n list) 0 list (save_into w (capacity rows) (row_at rows) n list)
unfolding save_into
save_refuses w rows n list =
    let room = leb (n * 3) (length list) in
    let out = over (words_of (saved w (row_at rows) n)) list in
    on_order (writing 0 list) w rows n (room_for (n * 3) list)
    (λ b. cond b (cond room (outcome (accepted n) out) (outcome (refused no_room 0) list)) (outcome (refused not_in_order 0) list))
    (room_on list out n (n * 3) room refl) (on_refused list not_in_order 0)

pub table_runs_refuses : (w : ℕ) (rows : List ℕ) (n : ℕ) (runs : List ℕ)
    → Refuses (table_runs_checks w rows n runs) 0 runs (table_runs w (capacity rows) (row_at rows) n runs)
unfolding table_runs
table_runs_refuses w rows n runs =
    let rs = listed w (table_routes w (row_at rows) n) n in
    on_order (writing 0 runs) w rows n (runs_checks rs runs) (λ b. cond b (write_runs rs runs) (outcome (refused not_in_order 0) runs))
    (runs_on rs runs) (on_refused runs not_in_order 0)

pub build_refuses : (w : ℕ) (list rows : List ℕ) → Refuses (build_checks w list rows) 0 rows (build_into five_words w list rows)
unfolding build_into
build_refuses w list rows =
    let n = route_count list in
    let done_with = outcome (accepted n) (built_from five_words w (route_at list) n 0 rows) in
    let next = cond (leb n (capacity rows)) done_with (outcome (refused no_room 0) rows) in
    on_list (writing 0 rows) (λ c. cond (eqb c.number 0) next (outcome c rows)) (λ m p some. refusal_on rows next m p some) w list _
    (on_test (writing 0 rows) (leb n (capacity rows)) _ (tells_le n (capacity rows)) no_room 0 done
    (λ b. cond b done_with (outcome (refused no_room 0) rows)) (on_accepted 0 rows n (built_from five_words w (route_at list) n 0 rows)) (on_refused rows no_room 0))

found_on : (port reads : ℕ) → On looking done (found port reads)
found_on port reads = record { exact = (refl, refl); kept = λ wrong. absurd (wrong refl) }

lost_on : (reads : ℕ) → On looking (shows not_in_order 0) (lost not_in_order reads)
lost_on reads = record { exact = (refl, refl); kept = λ _. refl }

-- a row read: wrong, or not
on_row : (b : Bool) (rest : Verdict) (reads : ℕ) (x : Found) → On looking rest x
    → On looking (refuse not_in_order 0 (b ≡ true) rest) (cond b (lost not_in_order reads) x)
on_row true rest reads x next = record { exact = inl (refl, (refl, refl)); kept = λ _. refl }
on_row false rest reads x next = record { exact = inr (false≢true, next.exact); kept = next.kept }

pub rows_refuse : (w : ℕ) (M : Mem) (n a k r best reads : ℕ) → On looking (row_checks w M n a k r) (walk w M n a k r best reads)
unfolding walk
rows_refuse w M n a zero r best reads = on_row (wrong_row w (M r) n a w) done (reads + 1) _ (ended (ends_at w (M r) a w))
  where
    ended : (b : Bool) → On looking done (cond b (found (M r).port (reads + 1)) (found (better_of w (M r) a best) (reads + 1)))
    ended true = found_on (M r).port (reads + 1)
    ended false = found_on (better_of w (M r) a best) (reads + 1)
rows_refuse w M n a (suc k) r best reads =
    let better = better_of w (M r) a best in
    let c = child (M r) (bit_before a k) in
    let below = walk w M n a k c better (reads + 1) in
    let on = cond (eqb c 0) (found better (reads + 1)) below in
    on_row (wrong_row w (M r) n a (w - suc k)) _ (reads + 1) _
    (on_whether looking (ends_at w (M r) a (w - suc k)) _ done _ (λ b. cond b (found (M r).port (reads + 1)) on) (λ e. e)
    (λ e f. false≢true (sym e ∙ f)) (found_on (M r).port (reads + 1))
    (on_whether looking (eqb c 0) (c ≡ 0) done _ (λ b. cond b (found better (reads + 1)) below) (eqb-true c 0) (eqb-false c 0)
    (found_on better (reads + 1)) (rows_refuse w M n a k c better (reads + 1))))

pub lookup_refuses : (w : ℕ) (rows : List ℕ) (n a : ℕ) → On looking (lookup_checks w rows n a) (lookup_in w (capacity rows) (row_at rows) n a)
unfolding lookup_in
lookup_refuses w rows n a =
    let walked = walk w (row_at rows) n a w 0 0 0 in
    let searched = cond (eqb n 0) (found 0 0) walked in
    over_full (ltb (capacity rows) n) (ltb-true (capacity rows) n) (ltb-false (capacity rows) n) _ searched
    (on_whether looking (eqb n 0) (n ≡ 0) done _ (λ b. cond b (found 0 0) walked) (eqb-true n 0) (eqb-false n 0) (found_on 0 0)
    (rows_refuse w (row_at rows) n a w 0 0 0))
  where
    over_full : (b : Bool) → (b ≡ true → capacity rows < n) → (b ≡ false → n ≤ capacity rows) → (rest : Verdict) (x : Found) → On looking rest x
        → On looking (refuse not_in_order 0 (capacity rows < n) rest) (cond b (lost not_in_order 0) x)
    over_full true is isnt rest x next = record { exact = inl (is refl, (refl, refl)); kept = λ _. refl }
    over_full false is isnt rest x next = record { exact = inr (λ h. omega (arith, isnt refl), next.exact); kept = next.kept }
