-- The counts of a table by its runs: what the making answers and leaves. Assumes nothing.
use mathlib.Core.Path.{◌≡◌, refl, sym, ap, ap₂, ◌∙◌, subst}
use mathlib.Core.Logic.{◌⊎◌, inl, inr}
use mathlib.Core.Bool.{true, false}
use mathlib.Core.List.{List}
use Prim.Native.Nat.{ℕ, ◌*◌, ◌/◌, ◌^◌, ◌≤◌, ◌<◌}
use native.Mathlib.Omega.{arith}
use native.Mathlib.Nat.{zero-add}
use lib.ListN.{length, get_or, drop}
use borrow.Author.Tests.{le-leb, lt-leb}
use Rattle.promise.specs.Over.{Outcome, outcome, over}
use Rattle.promise.proofs.Over.{over_front, length_over}
use Rattle.lists.specs.Numbered.{list_of}
use Rattle.lists.proofs.Tests.{way}
use Rattle.lists.proofs.Numbered.{get_d_list_of, length_list_of}
use Rattle.refusals.specs.Refusals.{no_room, not_in_order, refused, accepted}
use Rattle.refusals.specs.declared.Answer.{Answer}
use Rattle.routes.specs.Bounds.{most_routes}
use Rattle.routes.specs.Routes.{ValidList}
use Rattle.routes.specs.Scan.{scan_of}
use Rattle.routes.proofs.Scan.{scan_le}
use Rattle.table_rules.specs.Rows.{Layout}
use Rattle.table_rules.specs.Holds.{GoodOrder}
use Rattle.table_rules.specs.Check.{is_good}
use Rattle.table_rules.proofs.Good.{check_is_good}
use Rattle.runs_rules.specs.Runs.{Run, run, Lists, run_size, run_words, run_at}
use Rattle.runs_rules.specs.Listing.{listed, write_runs}
use Rattle.runs_rules.specs.TableRuns.{table_routes, table_runs}
use Rattle.runs_rules.specs.Theorems.{most_runs}
use Rattle.runs_rules.proofs.Listing.{listed_lists, never_too_many, length_run_words}
use Rattle.runs_rules.proofs.Words.{runs_of_words}
use Rattle.runs_rules.proofs.TableRuns.{routes_valid}
use Rattle.count_rules.specs.Tally.{ports}
use Rattle.count_rules.specs.Counted.{make_counts}
use Rattle.count_make.specs.Adding.{noughts, added_runs, AllAddable}
use Rattle.count_make.proofs.Added.{added_all, listed_some, listed_port}

-- fewer than 4,095 counts
pub made_short : (L : Layout (List ℕ)) (w : ℕ) (words : List ℕ) (n : ℕ) (counts : List ℕ) → length counts < ports
    → outcome (refused no_room 0) counts ≡ make_counts L w words n counts
unfolding make_counts
made_short L w words n counts short = sym (rw (lt-leb ports (length counts) short) refl)

-- the runs of a table, with room for all that there can be

module _ (L : Layout (List ℕ)) (w : ℕ) (words : List ℕ) (n : ℕ) (small : L.room words ≤ most_routes) (lent : List ℕ)
    (size : length lent ≡ most_runs * run_size) {a : Answer} {left : List ℕ}
    (is : outcome a left ≡ table_runs w (L.room words) (L.get words) n lent) (counts : List ℕ) (room : ports ≤ length counts) where
  abbrev rs : List Run
  rs = listed w (table_routes w (L.get words) n) n

  abbrev port : ℕ → ℕ
  port x = scan_of w (table_routes w (L.get words) n) n x

  module _ (fine : is_good w (L.room words) (L.get words) n ≡ true) where
    good : GoodOrder w (L.room words) (L.get words) n
    good = (check_is_good w (L.room words) (L.get words) n).0 fine

    valid : ValidList w (table_routes w (L.get words) n) n
    valid = routes_valid w (L.room words) (L.get words) n good.0 good.1 small

    few : length rs ≤ most_runs
    few = never_too_many w (table_routes w (L.get words) n) n valid

    runs_done : outcome a left ≡ outcome (accepted (length rs)) (over (run_words rs) lent)
    unfolding table_runs write_runs
    runs_done = is ∙ rw (fine, le-leb (length rs) (length lent / run_size) (omega (arith, few, size)))

    counted_port : (x : ℕ) → port x < ports
    counted_port x = omega (arith, scan_le w (table_routes w (L.get words) n) n valid x)

  runs_wrong : is_good w (L.room words) (L.get words) n ≡ false → a ≡ refused not_in_order 0
  unfolding table_runs
  runs_wrong wrong =
      let e : table_runs w (L.room words) (L.get words) n lent ≡ outcome (refused not_in_order 0) lent = rw wrong in
      ap (λ (o : Outcome Answer). o.answer) (is ∙ e)

  -- the listing is refused exactly where the table is not in good order
  pub made_refused : (a.number ≡ 0 → ⊥) → outcome a counts ≡ make_counts L w words n counts
  unfolding make_counts
  made_refused n0 = go (way (is_good w (L.room words) (L.get words) n))
    where
      go : (is_good w (L.room words) (L.get words) n ≡ true) ⊎ (is_good w (L.room words) (L.get words) n ≡ false)
          → outcome a counts ≡ make_counts L w words n counts
      go (inl fine) = absurd (n0 (ap (λ (o : Outcome Answer). o.answer.number) (runs_done fine)))
      go (inr wrong) =
          ap (λ (x : Answer). outcome x counts) (runs_wrong wrong) ∙ sym (rw (le-leb ports (length counts) room, wrong) refl)

  module _ (z : a.number ≡ 0) where
    is_good_lem : is_good w (L.room words) (L.get words) n ≡ true
    is_good_lem = go (way (is_good w (L.room words) (L.get words) n))
      where
        go : (is_good w (L.room words) (L.get words) n ≡ true) ⊎ (is_good w (L.room words) (L.get words) n ≡ false)
            → is_good w (L.room words) (L.get words) n ≡ true
        go (inl fine) = fine
        go (inr wrong) = absurd (omega (arith, z, ap (λ (x : Answer). x.number) (runs_wrong wrong)))

    count : a.count ≡ length rs
    count = ap (λ (o : Outcome Answer). o.answer.count) (runs_done is_good_lem)

    left_is : left ≡ over (run_words rs) lent
    left_is = ap (λ (o : Outcome Answer). o.lent) (runs_done is_good_lem)

    runs_are : list_of (run_at left) a.count 0 ≡ rs
    runs_are =
        ap₂ (λ (xs : List ℕ) (k : ℕ). list_of (run_at xs) k 0) left_is count ∙ runs_of_words rs (drop (length (run_words rs)) lent)

    listing : Lists port (2 ^ w) 0 rs
    listing = listed_lists w (table_routes w (L.get words) n) n

    run_is : (i : ℕ) → i < a.count → run_at left i ≡ get_or rs i (run 0 0 0)
    run_is i h =
        sym
        (ap (λ (qs : List Run). get_or qs i (run 0 0 0)) (sym runs_are)
        ∙ get_d_list_of (run_at left) a.count 0 i (run 0 0 0) h
        ∙ ap (run_at left) (zero-add i))

    pub made_addable : AllAddable left a.count (over (noughts ports) counts)
    made_addable = record {
      lent = omega (arith, count, few is_good_lem, size, within, ap length left_is, length_over (run_words rs) lent within);
      few = omega (arith, count, few is_good_lem);
      some = λ i h.
          subst (λ (r : Run). r.first ≤ r.last) (sym (run_is i h)) (listed_some port (2 ^ w) 0 rs (run 0 0 0) listing i (omega (arith, count)));
      counted = λ i h.
          subst (λ (r : Run). r.port < ports) (sym (run_is i h)) (listed_port port (2 ^ w) 0 rs (run 0 0 0) listing (counted_port is_good_lem) i (omega (arith, count)));
      room = omega (arith, room, length_over (noughts ports) counts (omega (arith, room, length_noughts)));
      small = λ p low. omega (arith, count, few is_good_lem, nought p low);
    }
      where
        within : length (run_words rs) ≤ length lent
        within = omega (arith, length_run_words rs, few is_good_lem, size)

        length_noughts : length (noughts ports) ≡ ports
        length_noughts = length_list_of (λ _. 0) ports 0

        nought : (p : ℕ) → p < ports → get_or (over (noughts ports) counts) p 0 ≡ 0
        nought p low =
            over_front (noughts ports) counts 0 p (omega (arith, low, length_noughts)) ∙ get_d_list_of (λ _. 0) ports 0 p 0 low

    pub made_done : {left' : List ℕ} → left' ≡ added_runs (over (noughts ports) counts) (list_of (run_at left) a.count 0)
        → outcome (accepted 0) left' ≡ make_counts L w words n counts
    unfolding make_counts
    made_done e =
        ap (outcome (accepted 0))
        (e ∙ ap (added_runs (over (noughts ports) counts)) runs_are ∙ added_all port (2 ^ w) rs counts listing (counted_port is_good_lem))
        ∙ sym (rw (le-leb ports (length counts) room, is_good_lem) refl)
