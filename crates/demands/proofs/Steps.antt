-- One step of each walk over the rows, for computing with rows that are written out: a step names what it found, so that nothing is
-- computed twice. Assumes nothing.
use mathlib.Core.Path.{◌≡◌}
use mathlib.Core.Bool.{Bool, true, false, cond}
use mathlib.Core.List.{List}
use Prim.Native.Nat.{ℕ, suc, ◌-◌}
use lib.Dec.{eqb, ltb}
use Rattle.routes.specs.declared.Route.{Route}
use Rattle.table_rules.specs.Rows.{Mem, child, route_of, with_route, with_child}
use Rattle.table_rows.specs.Words.{row_at, store_row, five_words}
use Rattle.table_rules.specs.Lookup.{wrong_row}
use Rattle.bits.specs.Bits.{bit_before}
use Rattle.table_rules.specs.Announce.{is_same}
use Rattle.table_rules.specs.Check.{no_rows, seen_join, path_on, seen_at}
use Rattle.table_rules.specs.Withdraw.{or_route, first_route, best_at, best_child, is_last, cut, relink}
use Rattle.routes.specs.Routes.{no_route}
use Rattle.table_rules.specs.Check.{Seen}

-- the best of a subtree, and what the check has seen of it
module _ (w : ℕ) (M : Mem) where
  pub best_none : (k c : ℕ) → c ≡ 0 → best_child w M k c ≡ no_route
  best_none k c e = rw e

  -- a priority node is the best of its own
  pub best_own : (k c : ℕ) → eqb c 0 ≡ false → ltb (w - suc k) (M c).len ≡ true → best_child w M (suc k) c ≡ route_of (M c)
  unfolding best_at
  best_own k c some e = rw (some, e)

  -- below an ordinary one there may be a longer route
  pub best_below_lem : (k c : ℕ) (a b : Route) → eqb c 0 ≡ false → ltb (w - suc k) (M c).len ≡ false
      → best_child w M k (M c).left ≡ a → best_child w M k (M c).right ≡ b
      → best_child w M (suc k) c ≡ or_route (first_route a b) (route_of (M c))
  unfolding best_at
  best_below_lem k c a b some e p q = rw (some, e, p, q)

  module _ (n : ℕ) where
    abbrev pub seen_child : ℕ → ℕ → Bool → ℕ → Seen
    seen_child k path side c = cond (eqb c 0) no_rows (seen_at w M n k (path_on path k side) c)

    pub seen_row : (k path r : ℕ) (x y : Seen) → wrong_row w (M r) n path (w - suc k) ≡ false
        → seen_child k path false (M r).left ≡ x → seen_child k path true (M r).right ≡ y
        → seen_at w M n (suc k) path r ≡ seen_join (M r) (w - suc k) x y
    unfolding seen_at
    seen_row k path r x y fine p q = rw (fine, p, q)

-- a route is taken out of the words at a row that holds it, with suc k bits below it
module _ (k r : ℕ) (s : List ℕ) where
  -- the best from below is the first of a and b
  module _ (q a b best : Route) (same : is_same q (row_at s r) ≡ true) (left : best_child 32 (row_at s) k (row_at s r).left ≡ a)
      (right : best_child 32 (row_at s) k (row_at s r).right ≡ b) (first : first_route a b ≡ best)
      (c : ℕ) (to : child (row_at s r) (bit_before best.value k) ≡ c) (s' : List ℕ) where
    -- it is taken out further down
    pub cut_on_lem : is_last best (row_at s c) ≡ false → store_row s r (with_route (row_at s r) best) ≡ s'
        → cut five_words 32 (suc k) s r q ≡ cut five_words 32 k s' c best
    unfolding cut
    cut_on_lem more stored = rw (same, left, right, first, to, more, stored)

    -- or was a leaf, which falls away
    pub cut_last : is_last best (row_at s c) ≡ true → store_row s r (with_child (with_route (row_at s r) best) (bit_before best.value k) 0) ≡ s'
        → cut five_words 32 (suc k) s r q ≡ record { rows = s'; freed = c }
    unfolding cut
    cut_last last stored = rw (same, left, right, first, to, last, stored)

  -- the parent of the row that moves: further down, or here
  module _ (v last freed c : ℕ) (to : child (row_at s r) (bit_before v k) ≡ c) where
    pub relink_on : eqb c last ≡ false → relink five_words 32 (suc k) s r v last freed ≡ relink five_words 32 k s c v last freed
    unfolding relink
    relink_on other = rw (to, other)

    pub relink_here : (s' : List ℕ) → eqb c last ≡ true → store_row s r (with_child (row_at s r) (bit_before v k) freed) ≡ s'
        → relink five_words 32 (suc k) s r v last freed ≡ s'
    unfolding relink
    relink_here s' same stored = rw (to, same, stored)
