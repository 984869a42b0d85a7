-- For the proofs: what the inner functions of the listing ask of each other and leave. RULES, "The run listing". Assumes nothing.
use Rattle.std.specs.Prelude.{◌≡◌, Bool, true, cond, List, ℕ, suc, ◌+◌, ◌-◌, ◌*◌, ◌^◌, ◌≤◌, ◌<◌, length}
use Rattle.promise.specs.Over.{over, store_three}
use Rattle.bits.specs.Prefix.{last}
use Rattle.routes.specs.Routes.{ValidList}
use Rattle.routes.specs.Scan.{last_match}
use Rattle.routes.specs.declared.Route.{Route}
use Rattle.runs_rules.specs.Runs.{Run, run_size, run_words}
use Rattle.runs_rules.specs.Listing.{listed}
use Rattle.runs_rules.specs.Theorems.{most_runs}
use Rattle.runs_write.specs.Sweep.{open_route, open_at, look, turned, turned_left, gone_on, gone_on_left}
use Rattle.runs_write.specs.declared.sweep.OpenRoute.{OpenRoute}
use Rattle.runs_write.specs.declared.sweep.OpenRun.{OpenRun}

-- the end of a route before route i that is at least j bits long
pub record Held (w : ℕ) (R : ℕ → Route) (i j e : ℕ) : Type 0 where
  pub which : ℕ
  pub earlier : which < i
  pub long : j ≤ (R which).len
  pub end_is : e ≡ last w (R which).value (R which).len

-- of the first i of n valid routes, the ones on the stack are those open at an address: they tell the port of every address
-- from there on, as far as these i routes go; below them is the whole space, to no port
pub record Open (w : ℕ) (R : ℕ → Route) (n : ℕ) (stack : List OpenRoute) (depth i at : ℕ) : Type 0 where
  pub valid : ValidList w R n
  pub taken : i ≤ n
  pub deep : depth ≤ w + 1
  pub size : length stack ≡ w + 2
  pub whole : open_at stack 0 ≡ open_route (2 ^ w - 1) 0
  pub held : (j : ℕ) → j < depth → Held w R i j (open_at stack (suc j)).end
  pub sees : (a : ℕ) → at ≤ a → last_match w R i a ≡ look stack depth a

-- room for run k, where it is to be written
pub record RoomFor (lent : List ℕ) (write : Bool) (k : ℕ) : Type 0 where
  pub few : k < most_runs
  pub room : write ≡ true → k * run_size + run_size ≤ length lent

-- run k is written where that is asked
pub record Ended (lent : List ℕ) (write : Bool) (k first last port next : ℕ) (left : List ℕ) : Type 0 where
  pub next_is_lem : next ≡ k + 1
  pub written : left ≡ cond write (store_three lent (k * run_size) first last port) lent

-- the open run goes on or ends, and is then written where that is asked
pub record Turned (lent : List ℕ) (write : Bool) (run : OpenRun) (port : ℕ) (next : OpenRun) (left : List ℕ) : Type 0 where
  pub run_is : next ≡ turned run port
  pub written : left ≡ turned_left write lent run port

-- the same, up to an address
pub record GoneOn (lent : List ℕ) (write : Bool) (run : OpenRun) (to port : ℕ) (next : OpenRun) (left : List ℕ) : Type 0 where
  pub run_is : next ≡ gone_on run to port
  pub written : left ≡ gone_on_left write lent run to port

-- what the sweep may count on: a valid list, and room for all runs where it writes
pub record Sweepable (w : ℕ) (R : ℕ → Route) (n : ℕ) (lent : List ℕ) (write : Bool) : Type 0 where
  pub valid : ValidList w R n
  pub room : write ≡ true → length (listed w R n) * run_size ≤ length lent

-- the runs are counted, and written where that is asked; the rest of the lent memory is as it was
pub record Swept (rs : List Run) (write : Bool) (count : ℕ) (lent left : List ℕ) : Type 0 where
  pub counted : count ≡ length rs
  pub written : left ≡ cond write (over (run_words rs) lent) lent
