-- The arguments of a call have no fault exactly if they are a valid route, or a valid prefix. Assumes nothing.
use mathlib.Core.Path.{◌≡◌, refl}
use Prim.Native.Nat.{ℕ, ◌%◌, ◌^◌, ◌<◌}
use lib.Dec.{leb}
use borrow.Author.Tests.{eqb-true, leb-true}
use Rattle.bits.specs.Prefix.{span, clear, Valid}
use Rattle.routes.specs.Routes.{ValidRoute}
use Rattle.routes.specs.Check.{prefix_fault, route_fault, fault_at}
use Rattle.routes.specs.declared.Route.{Route}
use Rattle.routes.proofs.Faults.{unless_none, fault_none, none_fault, faultless_valid, valid_faultless}

pub prefix_valid : (w v l : ℕ) → v < 2 ^ w → prefix_fault w v l 0 ≡ 0 → Valid w v l
prefix_valid w v l fits e =
    let a = unless_none (leb l w) 3 _ e in
    let b = unless_none (clear w v l) 4 0 a.1 in
    record { fits = fits; short = leb-true l w a.0; zeros = eqb-true (v % span w l) 0 b.0 }

-- a route by itself has the faults that it has as the first of a list
alone : (w : ℕ) (q : Route) → route_fault w q 0 ≡ fault_at w (λ _. q) 0
unfolding fault_at
alone w q = refl

pub route_valid : (w : ℕ) (q : Route) → q.value < 2 ^ w → route_fault w q 0 ≡ 0 → ValidRoute w q
route_valid w q fits e = faultless_valid w (λ _. q) 0 fits (fault_none w (λ _. q) 0 (rw (← alone w q) e))

pub route_faultless : (w : ℕ) (q : Route) → ValidRoute w q → route_fault w q 0 ≡ 0
route_faultless w q ok = rw (alone w q) (none_fault w (λ _. q) 0 (valid_faultless w (λ _. q) 0 ok refl))
