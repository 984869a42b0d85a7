-- A slot's stretch fits a node's words where its node's does, and a leaf's port fits half a word. Assumes nothing.
use mathlib.Core.Path.{◌≡◌, refl}
use mathlib.Core.Bool.{Bool, true, false, cond}
use Prim.Native.Nat.{ℕ, zero, suc, ◌+◌, ◌-◌, ◌≤◌, ◌<◌}
use native.Mathlib.Omega.{arith}
use native.Mathlib.Nat.{mod-lt}
use lib.Dec.{ltb}
use Rattle.routes.specs.Scan.{route_matches}
use Rattle.routes.specs.declared.Route.{Route}
use Rattle.image_stretch.specs.declared.Stretch.{Stretch}
use Rattle.image_stretch.specs.Stretches.{half_word, carried, last_from, stands_before, under, from_of, slot_stretch, leaf_port}
use Rattle.image_stretch.specs.Needs.{Fits}
use Rattle.image_stretch.proofs.FirstAndLast.{passed}

carried_lt : (r : Route) → carried r < half_word
carried_lt r = mod-lt r.port (omega arith)

either_lt : (b : Bool) (x y : ℕ) → x < half_word → y < half_word → cond b x y < half_word
either_lt true x y h k = h
either_lt false x y h k = k

module _ (w : ℕ) (R : ℕ → Route) where
  last_from_lt : (a port lo k : ℕ) → port < half_word → last_from w R a port lo k < half_word
  unfolding last_from
  last_from_lt a port lo zero h = h
  last_from_lt a port lo (suc k) h =
      either_lt (route_matches w a (R (lo + k))) (carried (R (lo + k))) (last_from w R a port lo k) (carried_lt (R (lo + k))) (last_from_lt a port lo k h)

  module _ (x : Stretch) (v l : ℕ) (f : Fits x) where
    from_le : from_of R x v l ≤ x.hi
    from_le = omega (arith, (passed (stands_before R v l) (x.hi - x.lo) x.lo).most, f.ordered)

    pub slot_hi_le : (slot_stretch w R x v l).hi ≤ x.hi
    unfolding slot_stretch
    slot_hi_le = omega (arith, (passed (under w R v l) (x.hi - from_of R x v l) (from_of R x v l)).most, from_le)

    pub slot_fits : Fits (slot_stretch w R x v l)
    unfolding slot_stretch
    slot_fits = record {
      ordered = (passed (under w R v l) (x.hi - from_of R x v l) (from_of R x v l)).from;
      rows_fit = omega (arith, (passed (under w R v l) (x.hi - from_of R x v l) (from_of R x v l)).most, from_le, f.rows_fit);
      port_fits = last_from_lt v x.best x.lo (from_of R x v l - x.lo) f.port_fits;
    }

    pub slot_depth : (slot_stretch w R x v l).depth ≡ l
    unfolding slot_stretch
    slot_depth = refl

pub leaf_port_lt : (R : ℕ → Route) (y : Stretch) → y.best < half_word → leaf_port R y < half_word
leaf_port_lt R y h = either_lt (ltb y.lo y.hi) (carried (R y.lo)) y.best (carried_lt (R y.lo)) h
