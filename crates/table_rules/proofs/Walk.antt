-- One row of the walk that checks good order, whatever the bits left. Assumes nothing.
use mathlib.Core.Path.{◌≡◌, refl}
use mathlib.Core.Bool.{Bool, true, false, cond, not, ◌||◌}
use Prim.Native.Nat.{ℕ, zero, suc, ◌-◌}
use native.Mathlib.Nat.{sub-zero}
use lib.Dec.{eqb}
use Rattle.table_rules.specs.Rows.{Mem}
use Rattle.table_rules.specs.Lookup.{wrong_row}
use Rattle.table_rules.specs.Check.{seen, wrong_rows, seen_join, path_on, seen_at}
use Rattle.table_rules.specs.Check.{Seen}
use Rattle.table_rules.specs.Walk.{last_seen, seen_below}

module _ (w : ℕ) (M : Mem) (n : ℕ) where
  -- row r and its subtrees, once the row is not wrong
  abbrev pub beyond : ℕ → ℕ → ℕ → Seen
  beyond zero v r = last_seen (M r)
  beyond (suc k) v r =
      seen_join (M r) (w - suc k) (seen_below w M n k (path_on v k false) (M r).left) (seen_below w M n k (path_on v k true) (M r).right)

  pub seen_at_by : (k v r : ℕ) → seen_at w M n k v r ≡ cond (wrong_row w (M r) n v (w - k)) wrong_rows (beyond k v r)
  unfolding seen_at
  seen_at_by zero v r = rw (sub-zero w) (go (wrong_row w (M r) n v w) (not (eqb (M r).left 0)) (not (eqb (M r).right 0)))
    where
      go : (a b c : Bool)
          → cond (a || b || c) wrong_rows (seen 1 (M r).value (M r).len)
          ≡ cond a wrong_rows (cond (b || c) wrong_rows (seen 1 (M r).value (M r).len))
      go true b c = refl
      go false b c = refl
  seen_at_by (suc k) v r = refl
