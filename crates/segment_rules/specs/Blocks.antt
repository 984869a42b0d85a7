-- Defines the blocks of addresses that share their first l bits: when a longer route begins with them, and else their port. RULES,
-- "Segment tables". Assumes nothing.
use Rattle.std.specs.Prelude.{Bool, ◌&&◌, ℕ, ◌*◌, eqb, ltb}
use Rattle.lists.specs.Below.{some_below}
use Rattle.bits.specs.Prefix.{span, head}
use Rattle.routes.specs.Scan.{scan_of}
use Rattle.routes.specs.declared.Route.{Route}

-- "a route longer than the bits used so far begins with them": the l bits write the number x
unfoldable pub longer : ℕ → (ℕ → Route) → ℕ → ℕ → ℕ → Bool
longer w R n l x = some_below (λ k. ltb l (R k).len && eqb (head w l (R k).value) x) n

-- the port of the block's first address; where no longer route begins with its bits, it is that of them all
unfoldable pub port_at : ℕ → (ℕ → Route) → ℕ → ℕ → ℕ → ℕ
port_at w R n l x = scan_of w R n (x * span w l)
