-- Defines how many nodes an image has, by one pass over the list: RULES, "The image". Routes that share
-- their first l bits stand together, and if one of them is longer than l bits, the last one is. Assumes nothing.
use Rattle.std.specs.Prelude.{cond, ℕ, zero, suc, ◌+◌, ◌-◌, ◌/◌, ltb}
use Rattle.bits.specs.Prefix.{matches}
use Rattle.routes.specs.declared.Route.{Route}

-- 1 if route i is the last with its first l bits and is longer: of the routes that come to one node at depth l it is the one that counts
unfoldable pub count_at : ℕ → (ℕ → Route) → ℕ → ℕ → ℕ → ℕ
count_at w R n l i =
    cond (ltb l (R i).len) (cond (ltb (i + 1) n) (cond (matches w (R i).value l (R (i + 1)).value) 0 1) 1) 0

-- the nodes that route i counts for, on k levels from depth l on
unfoldable pub count_below : ℕ → (ℕ → Route) → ℕ → ℕ → ℕ → ℕ → ℕ → ℕ
count_below w R n s zero l i = 0
count_below w R n s (suc k) l i = count_at w R n l i + count_below w R n s k (l + s) i

-- the sum of f over k numbers from i on
unfoldable pub sum_of : (ℕ → ℕ) → ℕ → ℕ → ℕ
sum_of f zero i = 0
sum_of f (suc k) i = f i + sum_of f k (i + 1)

-- "The root is always stored."
abbrev pub nodes_count : ℕ → (ℕ → Route) → ℕ → ℕ → ℕ
nodes_count w R n s = 1 + sum_of (count_below w R n s (w / s - 1) s) n 0
