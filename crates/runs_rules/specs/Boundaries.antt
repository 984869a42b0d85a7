-- Defines the listing by boundaries, which computes for 32-bit addresses: a run ends only before the first address of a
-- route or after its last. RULES, "The run listing", "Addresses and prefixes". Assumes nothing.
use Rattle.std.specs.Prelude.{Bool, cond, not, ◌&&◌, List, [], ◌∷◌, ℕ, zero, suc, ◌+◌, ◌-◌, ◌^◌, eqb, leb, ltb}
use Rattle.bits.specs.Prefix.{first, last}
use Rattle.routes.specs.Scan.{scan_of}
use Rattle.routes.specs.declared.Route.{Route}
use Rattle.runs_rules.specs.Runs.{Run, run}

-- the addresses in order, and one more among them
unfoldable pub insert : ℕ → List ℕ → List ℕ
insert c [] = c ∷ []
insert c (d ∷ ds) = cond (leb c d) (c ∷ d ∷ ds) (d ∷ insert c ds)

-- where the ports of n routes can change: each route's first address, and the one after its last
unfoldable pub boundaries : ℕ → (ℕ → Route) → ℕ → List ℕ
boundaries w R zero = []
boundaries w R (suc k) =
    insert (first w (R k).value (R k).len) (insert (last w (R k).value (R k).len + 1) (boundaries w R k))

-- the run that is open since s ends before address c, one of n
abbrev pub ends : (ℕ → ℕ) → ℕ → ℕ → ℕ → Bool
ends f n s c = ltb c n && not (eqb (f c) (f s))

-- a run in front of others, where it is one
abbrev pub keep : Bool → Run → List Run → List Run
keep here r rs = cond here (r ∷ rs) rs

-- the runs of f over n addresses, the first open since s, that can end before the given ones only
unfoldable pub runs_by : (ℕ → ℕ) → ℕ → ℕ → List ℕ → List Run
runs_by f n s [] = run s (n - 1) (f s) ∷ []
runs_by f n s (c ∷ cs) = keep (ends f n s c) (run s (c - 1) (f s)) (runs_by f n (cond (ends f n s c) c s) cs)

-- the listing of the plain scan of n routes, by their boundaries
abbrev pub boundary_runs : ℕ → (ℕ → Route) → ℕ → List Run
boundary_runs w R n = runs_by (scan_of w R n) (2 ^ w) 0 (boundaries w R n)
