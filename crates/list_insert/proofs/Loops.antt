-- A route put into its place among others, as the code goes: which of the two ways, and the loop of each. Assumes nothing.
use mathlib.Core.Path.{◌≡◌, refl, sym, ap, ap₂, ◌∙◌}
use mathlib.Core.Bool.{Bool, true, false, cond}
use mathlib.Core.List.{List}
use Prim.Native.Nat.{ℕ, suc, ◌+◌, ◌-◌, ◌<◌, ◌≤◌}
use native.Mathlib.Omega.{arith}
use borrow.Author.Tests.{le-leb, lt-ltb}
use Rattle.routes.specs.Routes.{route_at, route_count, store_route}
use Rattle.routes.specs.declared.Route.{Route}
use Rattle.list_insert.specs.Insertion.{route_before, sunk, risen, all_before, placed, inserted}

-- which way the code goes
module _ (words : List ℕ) (at middle end : ℕ) (q : Route) {b : Bool} (is : b ≡ all_before words at middle q) where
  pub placed_risen : b ≡ true → risen words middle (end - (middle + 1)) q ≡ placed words at middle end q
  unfolding placed
  placed_risen t = rw (sym is ∙ t) refl

  pub placed_sunk : b ≡ false → sunk words at (middle - at) q ≡ placed words at middle end q
  unfolding placed
  placed_sunk f = rw (sym is ∙ f) refl

-- the loop's invariant: what is left to do from place i down is the whole
pub record Sinking (lent : List ℕ) (at end : ℕ) (q : Route) (words : List ℕ) (i : ℕ) : Type 0 where
  pub low : at ≤ i
  pub rest : sunk words at (i - at) q ≡ sunk lent at (end - at) q

pub sinking_last : (words : List ℕ) (at i : ℕ) (q : Route) → i ≤ at → store_route words at q ≡ sunk words at (i - at) q
unfolding sunk
sinking_last words at i q e =
    let z : i - at ≡ 0 = omega arith in rw z refl

-- r is the route before place i, b whether it stands before q
module _ (words : List ℕ) (at i : ℕ) (q : Route) (more : at < i) (r : Route) (is : r ≡ route_at words (i - 1))
    (b : Bool) (eb : b ≡ route_before r q) where
  by_last : sunk words at (i - at) q ≡ cond b (store_route words i q) (sunk (store_route words i r) at (i - 1 - at) q)
  unfolding sunk
  by_last =
      let k : i - at ≡ suc (i - 1 - at) = omega arith in
      let j : at + (i - 1 - at) ≡ i - 1 = omega arith in
      let l : at + suc (i - 1 - at) ≡ i = omega arith in
      ap (λ (m : ℕ). sunk words at m q) k
      ∙ ap₂ (λ (x : Route) (y : ℕ). cond (route_before x q) (store_route words y q) (sunk (store_route words y x) at (i - 1 - at) q))
      (ap (route_at words) j ∙ sym is) l
      ∙ ap (λ (t : Bool). cond t (store_route words i q) (sunk (store_route words i r) at (i - 1 - at) q)) (sym eb)

  pub sinking_here : b ≡ true → store_route words i q ≡ sunk words at (i - at) q
  sinking_here t = sym (by_last ∙ ap (λ (t : Bool). cond t (store_route words i q) (sunk (store_route words i r) at (i - 1 - at) q)) t)

  pub sinking_next : b ≡ false → sunk (store_route words i r) at (i - 1 - at) q ≡ sunk words at (i - at) q
  sinking_next t = sym (by_last ∙ ap (λ (t : Bool). cond t (store_route words i q) (sunk (store_route words i r) at (i - 1 - at) q)) t)

-- the same from the free place up
abbrev pub Rising : List ℕ → ℕ → ℕ → Route → List ℕ → ℕ → Type 0
Rising lent at end q words i = risen words i (end - (i + 1)) q ≡ risen lent at (end - (at + 1)) q

pub rising_last : (words : List ℕ) (i end : ℕ) (q : Route) → i + 1 ≡ end → store_route words (end - 1) q ≡ risen words i (end - (i + 1)) q
unfolding risen
rising_last words i end q e =
    let z : end - (i + 1) ≡ 0 = omega arith in
    let y : end - 1 ≡ i = omega arith in
    rw (z, y) refl

-- r is the route after place i, b whether it stands before q
module _ (words : List ℕ) (i end : ℕ) (q : Route) (more : i + 1 < end) (r : Route) (is : r ≡ route_at words (i + 1))
    (b : Bool) (eb : b ≡ route_before r q) where
  by_first : risen words i (end - (i + 1)) q ≡ cond b (risen (store_route words i r) (i + 1) (end - (i + 1 + 1)) q) (store_route words i q)
  unfolding risen
  by_first =
      let k : end - (i + 1) ≡ suc (end - (i + 1 + 1)) = omega arith in
      ap (λ (m : ℕ). risen words i m q) k
      ∙ ap (λ (x : Route). cond (route_before x q) (risen (store_route words i x) (i + 1) (end - (i + 1 + 1)) q) (store_route words i q)) (sym is)
      ∙ ap (λ (t : Bool). cond t (risen (store_route words i r) (i + 1) (end - (i + 1 + 1)) q) (store_route words i q)) (sym eb)

  pub rising_here : b ≡ false → store_route words i q ≡ risen words i (end - (i + 1)) q
  rising_here t =
      sym (by_first ∙ ap (λ (t : Bool). cond t (risen (store_route words i r) (i + 1) (end - (i + 1 + 1)) q) (store_route words i q)) t)

  pub rising_next : b ≡ true → risen (store_route words i r) (i + 1) (end - (i + 1 + 1)) q ≡ risen words i (end - (i + 1)) q
  rising_next t =
      sym (by_first ∙ ap (λ (t : Bool). cond t (risen (store_route words i r) (i + 1) (end - (i + 1 + 1)) q) (store_route words i q)) t)

-- within the list
pub inserted_within : (words : List ℕ) (at middle end : ℕ) (q : Route) → at ≤ middle → middle < end → end ≤ route_count words
    → inserted words at middle end q ≡ placed words at middle end q
unfolding inserted
inserted_within words at middle end q a m e = rw (le-leb at middle a, lt-ltb middle end m, le-leb end (route_count words) e)
