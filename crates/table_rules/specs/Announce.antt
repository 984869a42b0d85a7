-- Defines how a route sinks to its place in the rows: RULES, "Announce". Places keep their rows; the route in a row may change. Over
-- any layout of rows. Assumes nothing.
use Rattle.std.specs.Prelude.{Bool, true, false, cond, ℕ, zero, suc, ◌-◌, eqb}
use Rattle.routes.specs.declared.Route.{Route}
use Rattle.table_rules.specs.Rows.{Mem, Layout, child, route_of, leaf_row, with_route, with_child}
use Rattle.table_rules.specs.Order.{outranks_at}
use Rattle.bits.specs.Prefix.{same_prefix}
use Rattle.bits.specs.Bits.{bit_before}
use Rattle.table_rules.specs.declared.Row.{Row}

-- the row's prefix is the route's
abbrev pub is_same : Route → Row → Bool
is_same q x = same_prefix q.value q.len x.value x.len

-- the route is to hold the row's place, at a depth
abbrev pub outranks_row : ℕ → Route → Row → Bool
outranks_row depth q x = outranks_at depth q.value q.len x.value x.len

-- Whether the rows from r on hold the route's prefix, with k bits below r. A place that it would take itself has it nowhere below.
unfoldable pub held_at : ℕ → Mem → ℕ → ℕ → Route → Bool
held_at w M zero r q = is_same q (M r)
held_at w M (suc k) r q =
    cond (is_same q (M r)) true
    (cond (outranks_row (w - suc k) q (M r)) false
    (cond (eqb (child (M r) (bit_before q.value k)) 0) false (held_at w M k (child (M r) (bit_before q.value k)) q)))

-- whether a table of n routes holds the route's prefix
abbrev pub is_held : ℕ → Mem → ℕ → Route → Bool
is_held w M n q = cond (eqb n 0) false (held_at w M w 0 q)

module _ {S : Type 0} (L : Layout S) (w : ℕ) where
  -- one step at row r: U holds the place and D goes down; where it has no row, it gets row n
  abbrev pub sink_by : S → ℕ → ℕ → Route → Route → Bool → (S → ℕ → S) → S
  sink_by s n r U D b on =
      cond (eqb (child (L.get s r) b) 0)
      (L.put (L.put s r (with_child (with_route (L.get s r) U) b n)) n (leaf_row D))
      (on (L.put s r (with_route (L.get s r) U)) (child (L.get s r) b))

  -- the route q sinks from row r on, with k bits below it: "A prefix already held gets the new port."
  unfoldable pub sink : ℕ → S → ℕ → ℕ → Route → S
  sink zero s n r q = cond (is_same q (L.get s r)) (L.put s r (with_route (L.get s r) q)) s
  sink (suc k) s n r q =
      let over : Bool = outranks_row (w - suc k) q (L.get s r) in
      let upper : Route = cond over q (route_of (L.get s r)) in
      let lower : Route = cond over (route_of (L.get s r)) q in
      cond (is_same q (L.get s r)) (L.put s r (with_route (L.get s r) q))
      (sink_by s n r upper lower (bit_before lower.value k) (λ s' c. sink k s' n c lower))

  -- the rows of a table of n routes with the route q
  unfoldable pub announced : S → ℕ → Route → S
  announced s n q = cond (eqb n 0) (L.put s 0 (leaf_row q)) (sink w s n 0 q)
