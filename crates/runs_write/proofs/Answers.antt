-- The answers of a listing: RULES, "Order of the checks". Assumes nothing.
use mathlib.Core.Path.{◌≡◌, sym, ap, ap₂, ◌∙◌}
use mathlib.Core.Bool.{Bool, true, false, false≢true}
use mathlib.Core.List.{List}
use Prim.Native.Nat.{ℕ, ◌*◌, ◌/◌, ◌≤◌, ◌<◌}
use native.Mathlib.Omega.{arith}
use lib.ListN.{length}
use borrow.Author.Tests.{le-leb, lt-leb}
use Rattle.promise.specs.Over.{Outcome, outcome, over}
use Rattle.refusals.specs.Refusals.{no_room, refused, accepted}
use Rattle.routes.specs.Routes.{route_at, route_count, ValidList, Words}
use Rattle.routes.specs.Check.{list_check}
use Rattle.routes.specs.declared.Route.{Route}
use Rattle.refusals.specs.declared.Answer.{Answer}
use Rattle.routes.proofs.Check.{accepted_valid}
use Rattle.runs_rules.specs.Runs.{Run, run_size, run_words}
use Rattle.runs_rules.specs.Listing.{listed, write_runs, list_runs}
use Rattle.runs_rules.specs.Theorems.{most_runs}
use Rattle.runs_rules.proofs.Listing.{listed_few, never_too_many, list_runs_accepted, list_runs_refused}
use Rattle.runs_write.specs.Needs.{Sweepable, Swept}

-- the first sweep counts, and asks no room
pub sweepable_to_count : {w : ℕ} {R : ℕ → Route} {n : ℕ} (lent : List ℕ) → ValidList w R n → Sweepable w R n lent false
sweepable_to_count lent ok = record { valid = ok; room = λ t. absurd (false≢true t) }

-- a sweep of a valid list counts few runs, so that their number fits a word
pub swept_few : {w : ℕ} {R : ℕ → Route} {n : ℕ} {write : Bool} {count : ℕ} {lent left : List ℕ} → ValidList w R n
    → Swept (listed w R n) write count lent left → count ≤ most_runs
swept_few {w} {R} {n} ok s = omega (arith, s.counted, never_too_many w R n ok)

-- with room for 2n+1 runs there is room for the runs of n routes: they are written at once, and nothing is refused
module _ {w : ℕ} {R : ℕ → Route} {n : ℕ} {lent : List ℕ} (ok : ValidList w R n) (roomy : 2 * n < length lent / run_size) where
  pub sweepable_at_once : Sweepable w R n lent true
  sweepable_at_once = record { valid = ok; room = λ t. omega (arith, listed_few w R n) }

  pub write_runs_at_once : {count : ℕ} {left : List ℕ} → Swept (listed w R n) true count lent left
      → outcome (accepted count) left ≡ write_runs (listed w R n) lent
  unfolding write_runs
  write_runs_at_once s =
      ap₂ (λ (k : ℕ) (ws : List ℕ). outcome (accepted k) ws) s.counted s.written
      ∙ simp (le-leb (length (listed w R n)) (length lent / run_size) (omega (arith, listed_few w R n)))

-- what it counted, in memory that it left as it was
module _ {rs : List Run} {count : ℕ} {lent left : List ℕ} (s : Swept rs false count lent left) where
  pub write_runs_short : length left / run_size < count → outcome (refused no_room 0) left ≡ write_runs rs lent
  unfolding write_runs
  write_runs_short l =
      ap (outcome (refused no_room 0)) s.written
      ∙ simp (lt-leb (length rs) (length lent / run_size) (omega (arith, s.counted, ap length s.written)))

  pub write_runs_done : {count' : ℕ} {done : List ℕ} → count ≤ length left / run_size
      → Swept rs true count' left done → outcome (accepted count) done ≡ write_runs rs lent
  unfolding write_runs
  write_runs_done {count'} {done} l t =
      ap₂ (λ (k : ℕ) (ws : List ℕ). outcome (accepted k) ws) s.counted (t.written ∙ ap (over (run_words rs)) s.written)
      ∙ simp (le-leb (length rs) (length lent / run_size) (omega (arith, s.counted, ap length s.written)))

-- a list, after its check
module _ (w : ℕ) (list : List ℕ) {checked : Answer} (is : checked ≡ list_check w list) where
  pub list_runs_checked : (lent : List ℕ) → (checked.number ≡ 0 → ⊥) → outcome checked lent ≡ list_runs w list lent
  list_runs_checked lent n =
      ap (λ (x : Answer). outcome x lent) is ∙ sym (list_runs_refused w list lent (λ z. n (ap (λ (x : Answer). x.number) is ∙ z)))

  pub list_runs_valid : Words w list → checked.number ≡ 0 → ValidList w (route_at list) (route_count list)
  list_runs_valid fits z = accepted_valid w list fits (ap (λ (x : Answer). x.number) (sym is) ∙ z)

  pub list_runs_listed : (lent : List ℕ) → checked.number ≡ 0 → {o : Outcome Answer}
      → o ≡ write_runs (listed w (route_at list) (route_count list)) lent → o ≡ list_runs w list lent
  list_runs_listed lent z e = e ∙ sym (list_runs_accepted w list lent (ap (λ (x : Answer). x.number) (sym is) ∙ z))
