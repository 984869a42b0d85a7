-- The listing of routes: it is the one of their plain scan, short, and found by boundaries. RULES, "The run listing". Assumes nothing.
use mathlib.Core.Path.{◌≡◌, refl, sym, ap, ◌∙◌}
use mathlib.Core.Logic.{⊎_elim}
use mathlib.Core.Bool.{true, false}
use mathlib.Core.List.{List, [], ◌∷◌}
use Prim.Native.Nat.{ℕ, ◌*◌, ◌/◌, ◌^◌, ◌≤◌}
use native.Mathlib.Omega.{arith}
use native.Mathlib.Nat.{sub-zero}
use lib.Dec.{eqb}
use lib.ListN.{length}
use lib.Pow.{pow_pos}
use borrow.Author.Tests.{eq-eqb, ne_eqb, eqb-true, eqb-false, le-leb, lt-leb}
use Rattle.promise.specs.Over.{Outcome, outcome, over}
use Rattle.lists.specs.Numbered.{list_of}
use Rattle.lists.proofs.Tests.{way}
use Rattle.trie.specs.Scan.{plain_scan}
use Rattle.refusals.specs.Refusals.{accepted}
use Rattle.refusals.specs.declared.Answer.{Answer}
use Rattle.routes.specs.Routes.{route_at, route_count, Words}
use Rattle.routes.specs.Check.{list_check}
use Rattle.routes.specs.Scan.{scan_of}
use Rattle.routes.proofs.Check.{accepted_valid}
use Rattle.runs_rules.specs.Runs.{Run, Lists, runs, runs_from, run_size, run_words}
use Rattle.runs_rules.specs.Boundaries.{boundaries, runs_by}
use Rattle.runs_rules.specs.Listing.{listed, write_runs, list_runs}
use Rattle.runs_rules.specs.Theorems.{most_runs, ListedLists, ListedFew, NeverTooMany, ListedNone, ListedBoundaries, ListRunsDone, ListRunsShort, ListRunsRefused}
use Rattle.runs_rules.proofs.Runs.{listing_unique, listing_exists}
use Rattle.runs_rules.proofs.Boundaries.{runs_by_is, runs_by_le, length_boundaries, rising_boundaries, scan_changes}

pub listed_lists : ListedLists
listed_lists w R n = listing_exists (scan_of w R n) (2 ^ w) (pow_pos w)

pub listed_boundaries : ListedBoundaries
unfolding runs
listed_boundaries w R n =
    ap (λ (k : ℕ). runs_from (scan_of w R n) 0 0 k) (sym (sub-zero (2 ^ w)))
    ∙ runs_by_is (scan_of w R n) (2 ^ w) (boundaries w R n) (rising_boundaries w R n) (scan_changes w R n (2 ^ w))

pub listed_few : ListedFew
listed_few w R n =
    rw (listed_boundaries w R n)
    (omega (arith, runs_by_le (scan_of w R n) (2 ^ w) (boundaries w R n) 0, length_boundaries w R n))

pub never_too_many : NeverTooMany
never_too_many w R n ok = omega (arith, listed_few w R n, ok.few)

pub listed_none : ListedNone
unfolding boundaries runs_by list_of plain_scan
listed_none w R = listed_boundaries w R 0

-- the answers to a list

-- a list that the check accepts: what is listed of its routes is written
pub list_runs_accepted : (w : ℕ) (list lent : List ℕ) → (list_check w list).number ≡ 0
    → list_runs w list lent ≡ write_runs (listed w (route_at list) (route_count list)) lent
unfolding list_runs
list_runs_accepted w list lent fine = rw (eq-eqb (list_check w list).number 0 fine) refl

-- any listing of an accepted list is what is listed of it
module _ (w : ℕ) (list : List ℕ) (rs : List Run) (fine : (list_check w list).number ≡ 0)
    (lists : Lists (scan_of w (route_at list) (route_count list)) (2 ^ w) 0 rs) where
  is_listed : listed w (route_at list) (route_count list) ≡ rs
  is_listed =
      listing_unique (scan_of w (route_at list) (route_count list)) (2 ^ w) (listed w (route_at list) (route_count list)) rs
      (listed_lists w (route_at list) (route_count list)) lists

  list_runs_fine : (lent : List ℕ) → list_runs w list lent ≡ write_runs rs lent
  list_runs_fine lent = list_runs_accepted w list lent fine ∙ ap (λ (qs : List Run). write_runs qs lent) is_listed

pub list_runs_done : ListRunsDone
unfolding write_runs
list_runs_done w list lent rs fine lists room =
    list_runs_fine w list rs fine lists lent
    ∙ simp (le-leb (length rs) (length lent / run_size) (omega arith))

pub list_runs_short : ListRunsShort
unfolding write_runs
list_runs_short w list lent rs fine lists short =
    list_runs_fine w list rs fine lists lent
    ∙ simp (lt-leb (length rs) (length lent / run_size) (omega arith))

pub list_runs_refused : ListRunsRefused
unfolding list_runs
list_runs_refused w list lent wrong = simp (ne_eqb (list_check w list).number 0 wrong)

-- with room for as many runs as a list can have, nothing but its check refuses it
module _ (w : ℕ) (list lent : List ℕ) (fits : Words w list) (roomy : most_runs * run_size ≤ length lent) where
  abbrev rs : List Run
  rs = listed w (route_at list) (route_count list)

  pub list_runs_roomy : (list_check w list).number ≡ 0 → list_runs w list lent ≡ outcome (accepted (length rs)) (over (run_words rs) lent)
  list_runs_roomy fine =
      list_runs_done w list lent rs fine (listed_lists w (route_at list) (route_count list))
      (omega (arith, roomy, never_too_many w (route_at list) (route_count list) (accepted_valid w list fits fine)))

  pub number_list_runs_roomy : (list_runs w list lent).answer.number ≡ (list_check w list).number
  number_list_runs_roomy =
      let number : (Outcome Answer → ℕ) = λ o. o.answer.number in
      ⊎_elim
      (λ (t : eqb (list_check w list).number 0 ≡ true).
      let fine = eqb-true (list_check w list).number 0 t in ap number (list_runs_roomy fine) ∙ sym fine)
      (λ (t : eqb (list_check w list).number 0 ≡ false).
      ap number (list_runs_refused w list lent (eqb-false (list_check w list).number 0 t)))
      (way (eqb (list_check w list).number 0))

-- three words a run
pub length_run_words : (rs : List Run) → length (run_words rs) ≡ length rs * run_size
length_run_words [] = refl
length_run_words (r ∷ rs) = omega (arith, length_run_words rs)
