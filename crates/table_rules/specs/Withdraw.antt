-- Defines how a route leaves the rows: RULES, "Withdraw". The place it leaves is filled from below, down to a leaf that falls away;
-- then the last row moves to the number that is free. Over any layout of rows. Assumes nothing.
use Rattle.std.specs.Prelude.{Bool, cond, ◌&&◌, ℕ, zero, suc, ◌-◌, eqb, ltb}
use Rattle.routes.specs.Routes.{no_route}
use Rattle.routes.specs.declared.Route.{Route}
use Rattle.table_rules.specs.Rows.{Mem, Layout, child, route_of, leaf_row, with_route, with_child}
use Rattle.bits.specs.Prefix.{ahead_of}
use Rattle.bits.specs.Bits.{bit_before}
use Rattle.table_rules.specs.Announce.{is_same}
use Rattle.table_rules.specs.declared.Row.{Row}

-- the first route, and the second where that is none
abbrev pub or_route : Route → Route → Route
or_route a b = cond (eqb a.port 0) b a

-- of two routes, either of which may be none, the one that goes first
abbrev pub first_route : Route → Route → Route
first_route a b =
    cond (eqb b.port 0) a (cond (eqb a.port 0) b (cond (ahead_of b.value b.len a.value a.len) b a))

-- The best route of all from row r on, with k bits below it. A priority node is the best of its own; an ordinary one may hide a
-- longer one.
unfoldable pub best_at : ℕ → Mem → ℕ → ℕ → Route
best_at w M zero r = route_of (M r)
best_at w M (suc k) r =
    cond (ltb (w - suc k) (M r).len) (route_of (M r))
    (or_route
    (first_route (cond (eqb (M r).left 0) no_route (best_at w M k (M r).left)) (cond (eqb (M r).right 0) no_route (best_at w M k (M r).right)))
    (route_of (M r)))

-- the best of one child's rows; none where there is no child
abbrev pub best_child : ℕ → Mem → ℕ → ℕ → Route
best_child w M k c = cond (eqb c 0) no_route (best_at w M k c)

-- the best of everything below a row with suc k bits below it
abbrev pub best_below : ℕ → Mem → ℕ → Row → Route
best_below w M k x = first_route (best_child w M k x.left) (best_child w M k x.right)

-- a leaf that holds the route
abbrev pub is_last : Route → Row → Bool
is_last q x = is_same q x && eqb x.left 0 && eqb x.right 0

abbrev pub zero_row : Row
zero_row = leaf_row no_route

-- the rows without a route, and the row that fell away
pub record Cut (S : Type 0) : Type 0 where
  pub rows : S
  pub freed : ℕ

module _ {S : Type 0} (L : Layout S) (w : ℕ) where
  -- one step at row r: H holds the place, and D is to go from side b, where it is the last or goes further down
  abbrev pub cut_by : S → ℕ → Route → Route → Bool → (S → ℕ → Cut S) → Cut S
  cut_by s r H D b on =
      cond (is_last D (L.get s (child (L.get s r) b)))
      (record { rows = L.put s r (with_child (with_route (L.get s r) H) b 0); freed = child (L.get s r) b })
      (on (L.put s r (with_route (L.get s r) H)) (child (L.get s r) b))

  -- The route q is taken out of the rows from r on, with k bits below r; r is no leaf that holds q. Where r holds q, the best from
  -- below takes its place and is itself taken out further down.
  unfoldable pub cut : ℕ → S → ℕ → Route → Cut S
  cut zero s r q = record { rows = s; freed = r }
  cut (suc k) s r q =
      let taken : Route = cond (is_same q (L.get s r)) (best_below w (L.get s) k (L.get s r)) q in
      let holder : Route = cond (is_same q (L.get s r)) (best_below w (L.get s) k (L.get s r)) (route_of (L.get s r)) in
      cut_by s r holder taken (bit_before taken.value k) (λ s' c. cut k s' c taken)

  -- the parent of row `last`, on the way of its value v, now names row `freed`
  unfoldable pub relink : ℕ → S → ℕ → ℕ → ℕ → ℕ → S
  relink zero s r v last freed = s
  relink (suc k) s r v last freed =
      cond (eqb (child (L.get s r) (bit_before v k)) last)
      (L.put s r (with_child (L.get s r) (bit_before v k) freed))
      (relink k s (child (L.get s r) (bit_before v k)) v last freed)

  -- "row n-1 ... moves to the freed number and its parent follows"
  abbrev pub move_row : S → ℕ → ℕ → S
  move_row s last freed =
      let s' : S = relink w s 0 (L.get s last).value last freed in
      L.put s' freed (L.get s' last)

  -- "where it is not the one freed"; "Row n-1 is then five zeros."
  unfoldable pub close_gap : Cut S → ℕ → S
  close_gap c last = L.put (cond (eqb c.freed last) c.rows (move_row c.rows last c.freed)) last zero_row

  -- the rows of a table of n routes without the route q, which it holds
  unfoldable pub withdrawn : S → ℕ → Route → S
  withdrawn s n q = cond (ltb 1 n) (close_gap (cut w s 0 q) (n - 1)) (L.put s 0 zero_row)
