-- How many addresses each port gets: over a stretch with one port, by the runs, and in all. RULES, "Addresses per port". Assumes nothing.
use mathlib.Core.Path.{◌≡◌, refl, sym, ap, ap₂, ◌∙◌}
use mathlib.Core.Logic.{◌⊎◌, inl, inr}
use mathlib.Core.Bool.{Bool, true, false, cond}
use mathlib.Core.List.{List, [], ◌∷◌}
use Prim.Native.Nat.{ℕ, zero, suc, ◌+◌, ◌-◌, ◌≤◌, ◌<◌}
use native.Mathlib.Omega.{arith}
use lib.Dec.{eqb}
use borrow.Author.Tests.{ne_eqb, eqb-true, eqb-false}
use Rattle.lists.specs.Numbered.{list_of}
use Rattle.lists.specs.Below.{number_below}
use Rattle.lists.proofs.Tests.{way}
use Rattle.lists.proofs.Below.{number_zero, number_pass, number_skip}
use Rattle.runs_rules.specs.Runs.{Run, RunAt, Lists}
use Rattle.count_rules.specs.Tally.{ports, addresses, tally, total, in_runs}
use Rattle.count_rules.specs.Theorems.{RunsTally}

-- all of a stretch pass
number_all : (test : ℕ → Bool) (n d : ℕ) → ((k : ℕ) → n ≤ k → k < n + d → test k ≡ true) → number_below test (n + d) ≡ number_below test n + d
number_all test n zero all = let z : n + 0 ≡ n = omega arith in ap (number_below test) z ∙ omega arith
number_all test n (suc d) all =
    let e : n + suc d ≡ n + d + 1 = omega arith in
    ap (number_below test) e
    ∙ number_pass test (n + d) (all (n + d) (omega arith) (omega arith))
    ∙ omega (arith, number_all test n d (λ k h l. all k h (omega arith)))

module _ (f : ℕ → ℕ) where
  -- d addresses from a on that go to port p
  pub addresses_stretch : (port p a d : ℕ) → ((x : ℕ) → a ≤ x → x < a + d → f x ≡ p)
      → addresses f port (a + d) ≡ addresses f port a + cond (eqb p port) d 0
  addresses_stretch port p a d one = by (way (eqb p port))
    where
      by : (eqb p port ≡ true) ⊎ (eqb p port ≡ false) → addresses f port (a + d) ≡ addresses f port a + cond (eqb p port) d 0
      by (inl t) =
          number_all (λ x. eqb (f x) port) a d (λ x h l. ap (λ (y : ℕ). eqb y port) (one x h l) ∙ t)
          ∙ ap (λ (b : Bool). addresses f port a + cond b d 0) (sym t)
      by (inr t) =
          number_skip (λ x. eqb (f x) port) a d (λ x h l. ap (λ (y : ℕ). eqb y port) (one x h l) ∙ t)
          ∙ omega arith
          ∙ ap (λ (b : Bool). addresses f port a + cond b d 0) (sym t)

  -- up to the last address of a run
  pub addresses_run : (port n a : ℕ) (r : Run) → RunAt f n a r
      → addresses f port (r.last + 1) ≡ addresses f port a + cond (eqb r.port port) (r.last - r.first + 1) 0
  addresses_run port n a r at =
      let e : a + (r.last - r.first + 1) ≡ r.last + 1 = omega (arith, at.starts, at.some) in
      ap (addresses f port) (sym e)
      ∙ addresses_stretch port r.port a (r.last - r.first + 1) (λ x h l. at.one_port x h (omega (arith, e)))

  -- from address a on
  runs_from_lem : (port n a : ℕ) (rs : List Run) → Lists f n a rs → addresses f port a + in_runs port rs ≡ addresses f port n
  runs_from_lem port n a [] ls = ap (λ (x : ℕ). addresses f port x + 0) ls ∙ omega arith
  runs_from_lem port n a (r ∷ rs) ls =
      let own = addresses_run port n a r ls.0 in
      let rest = runs_from_lem port n (r.last + 1) rs ls.2 in
      omega (arith, own, rest)

pub runs_tally : RunsTally
runs_tally f k rs ls port =
    omega (arith, runs_from_lem f port k 0 rs ls, number_zero (λ a. eqb (f a) port))

-- ports that agree below k
pub addresses_same : (f g : ℕ → ℕ) (port k : ℕ) → ((a : ℕ) → a < k → f a ≡ g a) → addresses f port k ≡ addresses g port k
unfolding number_below
addresses_same f g port zero e = refl
addresses_same f g port (suc k) e =
    ap₂ (λ (x y : ℕ). x + cond (eqb y port) 1 0) (addresses_same f g port k (λ a h. e a (omega arith))) (e k (omega arith))

-- the total

total_add : (f g : ℕ → ℕ) (k i : ℕ) → total (list_of (λ p. f p + g p) k i) ≡ total (list_of f k i) + total (list_of g k i)
unfolding list_of
total_add f g zero i = refl
total_add f g (suc k) i = omega (arith, total_add f g k (i + 1))

total_none : (f : ℕ → ℕ) (k i : ℕ) → ((p : ℕ) → i ≤ p → f p ≡ 0) → total (list_of f k i) ≡ 0
unfolding list_of
total_none f zero i none = refl
total_none f (suc k) i none = omega (arith, none i (omega arith), total_none f k (i + 1) (λ p h. none p (omega arith)))

-- one of them is c
total_one : (c k i : ℕ) → i ≤ c → c < i + k → total (list_of (λ p. cond (eqb c p) 1 0) k i) ≡ 1
unfolding list_of
total_one c zero i h l = absurd (omega arith)
total_one c (suc k) i h l = by (way (eqb c i)) (λ ne. total_one c k (i + 1) ne (omega arith))
  where
    by : (eqb c i ≡ true) ⊎ (eqb c i ≡ false)
        → (i + 1 ≤ c → total (list_of (λ p. cond (eqb c p) 1 0) k (i + 1)) ≡ 1)
        → cond (eqb c i) 1 0 + total (list_of (λ p. cond (eqb c p) 1 0) k (i + 1)) ≡ 1
    by (inl t) ih =
        let e : c ≡ i = eqb-true c i t in
        rw t (omega (arith, total_none (λ p. cond (eqb c p) 1 0) k (i + 1) (λ p m. ap (λ (b : Bool). cond b 1 0) (ne_eqb c p (λ z. omega (arith, e))))))
    by (inr t) ih =
        let ne : (c ≡ i → ⊥) = eqb-false c i t in
        rw t (omega (arith, ih (omega arith)))

total_same : (f g : ℕ → ℕ) (k i : ℕ) → ((p : ℕ) → f p ≡ g p) → total (list_of f k i) ≡ total (list_of g k i)
unfolding list_of
total_same f g zero i e = refl
total_same f g (suc k) i e = ap₂ (λ (x y : ℕ). x + y) (e i) (total_same f g k (i + 1) e)

addresses_suc : (f : ℕ → ℕ) (k p : ℕ) → addresses f p (suc k) ≡ addresses f p k + cond (eqb (f k) p) 1 0
unfolding number_below
addresses_suc f k p = refl

-- each address is counted once
pub total_tally : (f : ℕ → ℕ) (k : ℕ) → ((a : ℕ) → a < k → f a < ports) → total (tally f k) ≡ k
total_tally f zero few = total_none (λ p. addresses f p 0) ports 0 (λ p h. number_zero (λ a. eqb (f a) p))
total_tally f (suc k) few =
    total_same (λ p. addresses f p (suc k)) (λ p. addresses f p k + cond (eqb (f k) p) 1 0) ports 0 (addresses_suc f k)
    ∙ total_add (λ p. addresses f p k) (λ p. cond (eqb (f k) p) 1 0) ports 0
    ∙ omega (arith, total_tally f k (λ a h. few a (omega arith)), total_one (f k) ports 0 (omega arith) (few k (omega arith)))
