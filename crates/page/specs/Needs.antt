-- For the proofs: what the inner functions of the page ask of each other and leave. RULES, "Program runs". Assumes nothing.
use Rattle.std.specs.Prelude.{◌≡◌, List, ◌++◌, ℕ, ◌+◌, ◌*◌, ◌≤◌, length, take, drop}
use Rattle.routes.specs.Routes.{route_count}
use Rattle.routes.specs.Check.{list_check}
use Rattle.runs_rules.specs.Runs.{run_size}
use Rattle.page.specs.Page.{most_routes_shown, most_runs_shown, line_room, page_room}

-- text written into lent bytes: it stands from `at` on, up to `next`; what is before and after it is as it was
pub record Wrote (out : List ℕ) (at : ℕ) (text : List ℕ) (next : ℕ) (left : List ℕ) : Type 0 where
  pub next_is_lem : next ≡ at + length text
  pub written : take next left ≡ take at out ++ text
  pub rest : drop next left ≡ drop next out

-- room for the lines of the first n runs of some words
pub record Lined (out : List ℕ) (at : ℕ) (words : List ℕ) (n : ℕ) : Type 0 where
  pub there : n * run_size ≤ length words
  pub few : n ≤ most_runs_shown
  pub room : at + n * line_room ≤ length out

-- a list that the check accepts, with few enough routes for a page, and room for it
pub record Shown (w : ℕ) (list out : List ℕ) : Type 0 where
  pub accepted : (list_check w list).number ≡ 0
  pub few : route_count list ≤ most_routes_shown
  pub room : page_room ≤ length out
