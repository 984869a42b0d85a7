-- The listing of a table is that of the list that it is saved as: RULES, "The run listing". Assumes nothing.
use mathlib.Core.Path.{◌≡◌, refl, sym, ap, ◌∙◌}
use mathlib.Core.Logic.{◌⊎◌, inl, inr}
use mathlib.Core.Bool.{true, false}
use mathlib.Core.List.{List}
use Prim.Native.Nat.{ℕ, ◌*◌, ◌≤◌, ◌<◌}
use native.Mathlib.Omega.{arith}
use lib.ListN.{length, drop}
use borrow.Author.Tests.{le-leb}
use Rattle.promise.specs.Over.{Outcome, outcome, over}
use Rattle.lists.proofs.Tests.{way}
use Rattle.refusals.specs.Refusals.{not_in_order, refused, accepted}
use Rattle.refusals.specs.declared.Answer.{Answer}
use Rattle.routes.specs.Bounds.{most_routes}
use Rattle.routes.specs.Routes.{route, route_size, route_at, words_of, ValidList}
use Rattle.routes.proofs.Words.{get_words_at}
use Rattle.table_rules.specs.Rows.{Mem}
use Rattle.table_rules.specs.Holds.{GoodOrder}
use Rattle.table_rules.specs.Check.{is_good}
use Rattle.table_rules.specs.Save.{saved, save_into}
use Rattle.table_rules.specs.Theorems.{SavedWell}
use Rattle.table_rules.proofs.Good.{check_is_good}
use Rattle.table_rules.proofs.Save.{saved_is}
use Rattle.runs_rules.specs.Runs.{Run}
use Rattle.runs_rules.specs.Listing.{listed, write_runs}
use Rattle.runs_rules.specs.TableRuns.{table_routes, table_runs}
use Rattle.runs_rules.proofs.Same.{listed_same, valid_same}
use Rattle.runs_rules.proofs.TableRuns.{table_runs_refused}

-- a table that the check accepts
module _ (w capacity : ℕ) (M : Mem) (n : ℕ) (small : capacity ≤ most_routes) (fine : is_good w capacity M n ≡ true) where
  good : GoodOrder w capacity M n
  good = (check_is_good w capacity M n).0 fine

  few : n ≤ most_routes
  few = omega (arith, good.1.few)

  well : SavedWell w (saved w M n) n good.0
  well = saved_is w capacity M n good.0 good.1 few

  save_done : (list : List ℕ) → length list ≡ most_routes * route_size
      → save_into w capacity M n list ≡ outcome (accepted n) (over (words_of (saved w M n)) list)
  unfolding save_into
  save_done list size = rw (fine, le-leb (n * route_size) (length list) (omega (arith, few, size)))

-- what the saving of a table into room for 4,096 routes answers and leaves
module _ (w capacity : ℕ) (M : Mem) (n : ℕ) (small : capacity ≤ most_routes) (list : List ℕ) (size : length list ≡ most_routes * route_size)
    {left : List ℕ} {a : Answer} (is : outcome a left ≡ save_into w capacity M n list) where
  answer_good : is_good w capacity M n ≡ true → outcome a left ≡ outcome (accepted n) (over (words_of (saved w M n)) list)
  answer_good fine = is ∙ save_done w capacity M n small fine list size

  answer_wrong : is_good w capacity M n ≡ false → a ≡ refused not_in_order 0
  unfolding save_into
  answer_wrong wrong =
      let e : save_into w capacity M n list ≡ outcome (refused not_in_order 0) list = rw wrong in
      ap (λ (o : Outcome Answer). o.answer) (is ∙ e)

  pub saved_refused : (lent : List ℕ) → (a.number ≡ 0 → ⊥) → outcome a lent ≡ table_runs w capacity M n lent
  saved_refused lent n0 = go (way (is_good w capacity M n))
    where
      go : (is_good w capacity M n ≡ true) ⊎ (is_good w capacity M n ≡ false) → outcome a lent ≡ table_runs w capacity M n lent
      go (inl fine) = absurd (n0 (ap (λ (o : Outcome Answer). o.answer.number) (answer_good fine)))
      go (inr wrong) =
          ap (λ (x : Answer). outcome x lent) (answer_wrong wrong) ∙ sym (table_runs_refused w capacity M n lent wrong)

  is_good_lem : a.number ≡ 0 → is_good w capacity M n ≡ true
  is_good_lem z = go (way (is_good w capacity M n))
    where
      go : (is_good w capacity M n ≡ true) ⊎ (is_good w capacity M n ≡ false) → is_good w capacity M n ≡ true
      go (inl fine) = fine
      go (inr wrong) = absurd (omega (arith, z, ap (λ (x : Answer). x.number) (answer_wrong wrong)))

  -- it was in good order, and its routes are in the list
  module _ (z : a.number ≡ 0) where
    count : a.count ≡ n
    count = ap (λ (o : Outcome Answer). o.answer.count) (answer_good (is_good_lem z))

    -- the routes in front of what is left in the list
    routes_left : (i : ℕ) → i < n → table_routes w M n i ≡ route_at left i
    routes_left i h =
        sym
        (ap (λ (o : Outcome Answer). route_at o.lent i) (answer_good (is_good_lem z))
        ∙ get_words_at (saved w M n) (drop (length (words_of (saved w M n))) list) i (route 0 0 0) (omega (arith, (well w capacity M n small (is_good_lem z)).size)))

    pub saved_valid : ValidList w (route_at left) a.count
    saved_valid = rw count (valid_same w (table_routes w M n) (route_at left) n routes_left (well w capacity M n small (is_good_lem z)).list)

    pub saved_listed : (lent : List ℕ) {o : Outcome Answer} → o ≡ write_runs (listed w (route_at left) a.count) lent
        → o ≡ table_runs w capacity M n lent
    unfolding table_runs
    saved_listed lent e =
        e
        ∙ ap (λ (rs : List Run). write_runs rs lent)
        (ap (λ (k : ℕ). listed w (route_at left) k) count ∙ sym (listed_same w (table_routes w M n) (route_at left) n routes_left))
        ∙ sym (rw (is_good_lem z) refl)
