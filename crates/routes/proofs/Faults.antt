-- The faults of a prefix and of a route: what comes after them, and when there are none. Assumes nothing.
use mathlib.Core.Path.{◌≡◌, refl, sym, ap, ◌∙◌}
use mathlib.Core.Logic.{◌⊎◌, inl, inr}
use mathlib.Core.Bool.{Bool, true, false, cond}
use Prim.Native.Nat.{ℕ, suc, ◌+◌, ◌-◌, ◌%◌, ◌^◌, ◌≤◌, ◌<◌}
use native.Mathlib.Omega.{arith}
use lib.Dec.{eqb, leb, ltb}
use borrow.Author.Tests.{eq-eqb, ne_eqb, eqb-true, le-leb, leb-true, lt-ltb, ltb-true}
use Rattle.prefix.specs.Prefixes.{prefix}
use Rattle.prefix.specs.declared.Prefix.{Prefix}
use Rattle.bits.specs.Prefix.{span, clear, precedes}
use Rattle.lists.proofs.Tests.{both}
use Rattle.refusals.specs.Refusals.{unless, long_prefix, spare_bits, wrong_port, not_above}
use Rattle.routes.specs.Bounds.{last_port}
use Rattle.routes.specs.Routes.{ValidRoute}
use Rattle.routes.specs.Check.{is_port, prefix_fault, route_fault, above, fault_at}
use Rattle.routes.specs.declared.Route.{Route}

-- a test of a prefix that was made of a value and a length is the test of these
pub prefix_test : (test : ℕ → ℕ → Bool) (v l : ℕ) (p : Prefix) (b : Bool) → p ≡ prefix v l → b ≡ test p.value p.len → test v l ≡ b
prefix_test test v l p b made e = sym (e ∙ ap (λ (q : Prefix). test q.value q.len) made)

-- the fault that the first of two checks finds
abbrev pub or_fault : ℕ → ℕ → ℕ
or_fault fault rest = cond (eqb fault 0) rest fault

-- a chain of checks: what follows is asked where they find nothing
module _ (chain : ℕ → ℕ) (rest-law : (rest : ℕ) → chain rest ≡ or_fault (chain 0) rest) (fault : ℕ) (is : fault ≡ chain 0) where
  pub chain_fault : (rest : ℕ) → (fault ≡ 0 → ⊥) → chain rest ≡ fault
  chain_fault rest n =
      rest-law rest ∙ ap (λ (x : ℕ). or_fault x rest) (sym is) ∙ ap (λ (b : Bool). cond b rest fault) (ne_eqb fault 0 n)

  pub chain_rest : (rest : ℕ) → fault ≡ 0 → chain rest ≡ rest
  chain_rest rest z =
      rest-law rest ∙ ap (λ (x : ℕ). or_fault x rest) (sym is) ∙ ap (λ (b : Bool). cond b rest fault) (eq-eqb fault 0 z)

pub prefix_fault_rest : (w v l rest : ℕ) → prefix_fault w v l rest ≡ or_fault (prefix_fault w v l 0) rest
prefix_fault_rest w v l rest = go (leb l w) (clear w v l)
  where
    go : (a b : Bool) → unless a long_prefix (unless b spare_bits rest) ≡ or_fault (unless a long_prefix (unless b spare_bits 0)) rest
    go true true = refl
    go true false = refl
    go false b = refl

pub route_fault_rest : (w : ℕ) (r : Route) (rest : ℕ) → route_fault w r rest ≡ or_fault (route_fault w r 0) rest
route_fault_rest w r rest = go (leb r.len w) (clear w r.value r.len) (is_port r.port)
  where
    go : (a b c : Bool)
        → unless a long_prefix (unless b spare_bits (unless c wrong_port rest))
        ≡ or_fault (unless a long_prefix (unless b spare_bits (unless c wrong_port 0))) rest
    go true true true = refl
    go true true false = refl
    go true false c = refl
    go false b c = refl

-- the fault of route i, from the fault of the route by itself
module _ (w : ℕ) (R : ℕ → Route) (i : ℕ) (r : Route) (read : r ≡ R i) (fault : ℕ) (is : fault ≡ route_fault w r 0) where
  fault_at_lem : fault_at w R i ≡ route_fault w r (unless (above R i) not_above 0)
  unfolding fault_at
  fault_at_lem = ap (λ (x : Route). route_fault w x (unless (above R i) not_above 0)) (sym read)

  pub fault_own : (fault ≡ 0 → ⊥) → fault_at w R i ≡ fault
  fault_own n = fault_at_lem ∙ chain_fault (route_fault w r) (route_fault_rest w r) fault is (unless (above R i) not_above 0) n

  pub fault_above : (rises : Bool) → above R i ≡ rises → fault ≡ 0 → fault_at w R i ≡ unless rises not_above 0
  fault_above rises e z =
      fault_at_lem ∙ chain_rest (route_fault w r) (route_fault_rest w r) fault is (unless (above R i) not_above 0) z
      ∙ ap (λ (b : Bool). unless b not_above 0) e

-- the first route is above
pub above_first : (R : ℕ → Route) (i : ℕ) → i ≡ 0 → above R i ≡ true
above_first R i z = rw (eq-eqb i 0 z)

-- a later one is if the one before precedes it
pub above_later : (R : ℕ → Route) (i : ℕ) (before r : Route) (p q : Prefix) (rises : Bool)
    → (i ≡ 0 → ⊥) → before ≡ R (i - 1) → r ≡ R i → p ≡ prefix before.value before.len → q ≡ prefix r.value r.len
    → rises ≡ precedes p.value p.len q.value q.len → above R i ≡ rises
above_later R i before r p q rises n eb er ep eq e =
    rw (ne_eqb i 0 n, ← eb, ← er) (sym (rw (ep, eq) at e))

-- the faults of a route are 4, 5, 6, 7
abbrev four_checks : Bool → Bool → Bool → Bool → ℕ
four_checks short clear ported rises = unless short long_prefix (unless clear spare_bits (unless ported wrong_port (unless rises not_above 0)))

pub fault_range : (w : ℕ) (R : ℕ → Route) (i : ℕ) → (fault_at w R i ≡ 0) ⊎ ((long_prefix ≤ fault_at w R i) × (fault_at w R i ≤ not_above))
unfolding fault_at
fault_range w R i = go (leb (R i).len w) (clear w (R i).value (R i).len) (is_port (R i).port) (above R i)
  where
    go : (a b c d : Bool) → (four_checks a b c d ≡ 0) ⊎ ((long_prefix ≤ four_checks a b c d) × (four_checks a b c d ≤ not_above))
    go true true true true = inl refl
    go true true true false = inr (omega arith)
    go true true false d = inr (omega arith)
    go true false c d = inr (omega arith)
    go false b c d = inr (omega arith)

-- a check that finds no fault passes, and so do those after it
pub unless_none : (fine : Bool) (m rest : ℕ) → unless fine (suc m) rest ≡ 0 → (fine ≡ true) × (rest ≡ 0)
unless_none true m rest e = (refl, e)
unless_none false m rest e = absurd (omega arith)

-- route i has no fault: the four checks pass
pub record Faultless (w : ℕ) (R : ℕ → Route) (i : ℕ) : Type 0 where
  pub short : leb (R i).len w ≡ true
  pub zeros : clear w (R i).value (R i).len ≡ true
  pub ported : is_port (R i).port ≡ true
  pub rises : above R i ≡ true

pub fault_none : (w : ℕ) (R : ℕ → Route) (i : ℕ) → fault_at w R i ≡ 0 → Faultless w R i
unfolding fault_at
fault_none w R i e =
    let a = unless_none (leb (R i).len w) 3 _ e in
    let b = unless_none (clear w (R i).value (R i).len) 4 _ a.1 in
    let c = unless_none (is_port (R i).port) 5 _ b.1 in
    let d = unless_none (above R i) 6 0 c.1 in
    record { short = a.0; zeros = b.0; ported = c.0; rises = d.0 }

pub none_fault : (w : ℕ) (R : ℕ → Route) (i : ℕ) → Faultless w R i → fault_at w R i ≡ 0
unfolding fault_at
none_fault w R i ok = rw (ok.short, ok.zeros, ok.ported, ok.rises)

-- a route of words without a fault is valid, and rises above the one before
pub faultless_valid : (w : ℕ) (R : ℕ → Route) (i : ℕ) → (R i).value < 2 ^ w → Faultless w R i → ValidRoute w (R i)
faultless_valid w R i fits ok = record {
  prefix = record {
    fits = fits;
    short = leb-true (R i).len w ok.short;
    zeros = eqb-true ((R i).value % span w (R i).len) 0 ok.zeros;
  };
  some = ltb-true 0 (R i).port (both (ltb 0 (R i).port) (leb (R i).port last_port) ok.ported).0;
  most = leb-true (R i).port last_port (both (ltb 0 (R i).port) (leb (R i).port last_port) ok.ported).1;
}

pub faultless_rises : (w : ℕ) (R : ℕ → Route) (i : ℕ) → Faultless w R (i + 1)
    → precedes (R i).value (R i).len (R (i + 1)).value (R (i + 1)).len ≡ true
faultless_rises w R i ok =
    let e : i + 1 - 1 ≡ i = omega arith in
    rw (ne_eqb (i + 1) 0 (λ z. omega arith), e) at ok.rises

pub valid_faultless : (w : ℕ) (R : ℕ → Route) (i : ℕ) → ValidRoute w (R i) → above R i ≡ true → Faultless w R i
valid_faultless w R i ok up = record {
  short = le-leb (R i).len w ok.prefix.short;
  zeros = eq-eqb ((R i).value % span w (R i).len) 0 ok.prefix.zeros;
  ported = rw (lt-ltb 0 (R i).port ok.some, le-leb (R i).port last_port ok.most);
  rises = up;
}
