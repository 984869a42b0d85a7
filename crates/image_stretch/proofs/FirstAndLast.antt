-- The first of some numbers where a test fails; the last of some routes that matches. Assumes nothing.
use mathlib.Core.Path.{◌≡◌, refl, sym, ap, ap₂, ◌∙◌}
use mathlib.Core.Bool.{Bool, true, false, cond}
use mathlib.Core.Logic.{⊎_elim}
use Prim.Native.Nat.{ℕ, zero, suc, ◌+◌, ◌-◌, ◌≤◌, ◌<◌}
use native.Mathlib.Omega.{arith}
use native.Mathlib.Nat.{add-zero, mod-eq_of_lt}
use Rattle.routes.specs.Routes.{ValidList}
use Rattle.routes.specs.Scan.{route_matches, last_match}
use Rattle.routes.specs.declared.Route.{Route}
use Rattle.lists.proofs.Tests.{lt_or_le}
use Rattle.image_stretch.specs.Stretches.{past, carried, last_from}

-- as the code goes, up to hi
module _ (test : ℕ → Bool) where
  pub past_more : (hi i : ℕ) → i < hi → test i ≡ true → past test (hi - i) i ≡ past test (hi - (i + 1)) (i + 1)
  unfolding past
  past_more hi i h t = let e : hi - i ≡ suc (hi - (i + 1)) = omega arith in rw (e, t)

  pub past_here : (hi i : ℕ) → i < hi → test i ≡ false → past test (hi - i) i ≡ i
  unfolding past
  past_here hi i h t = let e : hi - i ≡ suc (hi - (i + 1)) = omega arith in rw (e, t)

  pub past_all : (hi i : ℕ) → hi ≤ i → past test (hi - i) i ≡ i
  unfolding past
  past_all hi i h = let e : hi - i ≡ 0 = omega arith in rw e

  -- what the search finds
  pub record Passed (k i r : ℕ) : Type 0 where
    pub from : i ≤ r
    pub most : r ≤ i + k
    pub holds : (m : ℕ) → i ≤ m → m < r → test m ≡ true
    pub stops : r < i + k → test r ≡ false

  passed_more : (k i : ℕ) (b : Bool) → test i ≡ b → Passed k (i + 1) (past test k (i + 1)) → Passed (suc k) i (cond b (past test k (i + 1)) i)
  passed_more k i true e p = record {
    from = omega (arith, p.from);
    most = omega (arith, p.most);
    holds = λ m a c. ⊎_elim
        (λ (l : i < m). p.holds m (omega arith) c)
        (λ (l : m ≤ i). let z : m ≡ i = omega arith in ap test z ∙ e)
        (lt_or_le i m);
    stops = λ l. p.stops (omega arith);
  }
  passed_more k i false e p = record {
    from = omega arith;
    most = omega arith;
    holds = λ m a c. absurd (omega arith);
    stops = λ l. e;
  }

  pub passed : (k i : ℕ) → Passed k i (past test k i)
  unfolding past
  passed zero i = record { from = omega arith; most = omega arith; holds = λ m a c. absurd (omega arith); stops = λ l. absurd (omega arith) }
  passed (suc k) i = passed_more k i (test i) refl (passed k (i + 1))

-- the last match
module _ (w : ℕ) (R : ℕ → Route) where
  pub last_from_none : (a port lo k : ℕ) → k ≡ 0 → last_from w R a port lo k ≡ port
  unfolding last_from
  last_from_none a port lo zero h = refl
  last_from_none a port lo (suc k) h = absurd (omega arith)

  pub last_from_more : (a port lo i so next : ℕ) → lo ≤ i → so ≡ last_from w R a port lo (i - lo)
      → next ≡ cond (route_matches w a (R i)) (carried (R i)) so → next ≡ last_from w R a port lo (i + 1 - lo)
  unfolding last_from
  last_from_more a port lo i so next h e f =
      let z : i + 1 - lo ≡ suc (i - lo) = omega arith in
      let y : i ≡ lo + (i - lo) = omega arith in
      f ∙ rw z (ap₂ (λ (m p : ℕ). cond (route_matches w a (R m)) (carried (R m)) p) y e)

  -- routes that do not match make no difference
  pub last_match_none : (a k m : ℕ) → ((i : ℕ) → k ≤ i → i < k + m → route_matches w a (R i) ≡ false)
      → last_match w R (k + m) a ≡ last_match w R k a
  unfolding last_match
  last_match_none a k zero h = ap (λ (j : ℕ). last_match w R j a) (add-zero k)
  last_match_none a k (suc m) h =
      let z : k + suc m ≡ suc (k + m) = omega arith in
      ap (λ (j : ℕ). last_match w R j a) z
      ∙ ap (λ (t : Bool). cond t (R (k + m)).port (last_match w R (k + m) a)) (h (k + m) (omega arith) (omega arith))
      ∙ last_match_none a k m (λ i p q. h i p (omega arith))

  -- a valid list
  module _ (n : ℕ) (ok : ValidList w R n) where
    pub carried_is : (i : ℕ) → i < n → carried (R i) ≡ (R i).port
    carried_is i h = mod-eq_of_lt (omega (arith, (ok.each i h).most))

    -- the last match goes on from those before
    pub last_from_is : (a port lo k : ℕ) → lo + k ≤ n → port ≡ last_match w R lo a → last_from w R a port lo k ≡ last_match w R (lo + k) a
    unfolding last_from last_match
    last_from_is a port lo zero h e = e ∙ ap (λ (j : ℕ). last_match w R j a) (sym (add-zero lo))
    last_from_is a port lo (suc k) h e =
        let z : lo + suc k ≡ suc (lo + k) = omega arith in
        ap₂ (λ (p q : ℕ). cond (route_matches w a (R (lo + k))) p q) (carried_is (lo + k) (omega arith)) (last_from_is a port lo k (omega arith) e)
        ∙ ap (λ (j : ℕ). last_match w R j a) (sym z)
