-- The routes of a valid list: an earlier one precedes a later one, so no two have one prefix, and of two that match an address
-- the later is the longer. Assumes nothing.
use mathlib.Core.Path.{◌≡◌}
use mathlib.Core.Bool.{true}
use Prim.Native.Nat.{ℕ, zero, suc, ◌+◌, ◌-◌, ◌<◌}
use native.Mathlib.Omega.{arith}
use Rattle.bits.specs.Bits.{prefix_bits}
use Rattle.bits.proofs.Bits.{valid_prefix_unique}
use Rattle.bits.proofs.Prefix.{first_valid, matches→within, within→matches}
use Rattle.bits.proofs.Order.{Precedes, precedes_is, precedes_trans, precedes_irrefl, precedes_value_le, later_longer}
use Rattle.routes.specs.Routes.{ValidList}
use Rattle.routes.specs.Scan.{route_matches}
use Rattle.routes.specs.declared.Route.{Route}

-- route j stands before route k
abbrev pub Before : (ℕ → Route) → ℕ → ℕ → Type 0
Before R j k = Precedes (R j).value (R j).len (R k).value (R k).len

module _ (w : ℕ) (R : ℕ → Route) (n : ℕ) (ok : ValidList w R n) where
  next : (j : ℕ) → j + 1 < n → Before R j (j + 1)
  next j h = precedes_is (R j).value (R j).len (R (j + 1)).value (R (j + 1)).len (ok.rises j h)

  before_by : (d j : ℕ) → j + d + 1 < n → Before R j (j + d + 1)
  before_by zero j h = let z : j + 0 ≡ j = omega arith in rw z (next j (omega arith))
  before_by (suc d) j h =
      let z : j + suc d ≡ j + d + 1 = omega arith in
      rw z (precedes_trans (before_by d j (omega arith)) (next (j + d + 1) (omega arith)))

  pub before : (j k : ℕ) → j < k → k < n → Before R j k
  before j k h l = let z : j + (k - j - 1) + 1 ≡ k = omega arith in rw z at (before_by (k - j - 1) j (omega arith))

  -- the prefixes are pairwise different
  pub prefixes_differ : (j k : ℕ) → j < k → k < n
      → prefix_bits w (R k).value (R k).len ≡ prefix_bits w (R j).value (R j).len → ⊥
  prefixes_differ j k h l e =
      let u = valid_prefix_unique w (R k).value (R k).len (R j).value (R j).len (ok.each k l).prefix (ok.each j (omega arith)).prefix e in
      precedes_irrefl (rw (u.0, u.1) at (before j k h l))

  -- the later of two matches is the longer
  pub match_longer : (j k a : ℕ) → j < k → k < n → route_matches w a (R j) ≡ true → route_matches w a (R k) ≡ true → (R j).len < (R k).len
  match_longer j k a h l mj mk =
      let p = (ok.each j (omega arith)).prefix in
      let q = (ok.each k l).prefix in
      let b = before j k h l in
      let wj = matches→within w (R j).value (R j).len a mj in
      let wk = matches→within w (R k).value (R k).len a mk in
      let ej = first_valid w (R j).value (R j).len p in
      let ek = first_valid w (R k).value (R k).len q in
      let low = precedes_value_le b in
      later_longer w (R j).value (R j).len (R k).value (R k).len p q b
      (within→matches w (R j).value (R j).len (R k).value (omega (arith, ej, low)) (omega (arith, wj.1, wk.0, ek)))
