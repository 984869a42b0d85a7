-- The tests of the search on a route, as the code calls them. Assumes nothing.
use mathlib.Core.Path.{◌≡◌, sym, ap, ◌∙◌}
use mathlib.Core.Bool.{Bool, cond}
use Prim.Native.Nat.{ℕ}
use Rattle.bits.specs.Prefix.{matches, precedes}
use Rattle.prefix.specs.Prefixes.{prefix}
use Rattle.prefix.specs.declared.Prefix.{Prefix}
use Rattle.routes.specs.Scan.{route_matches}
use Rattle.routes.specs.declared.Route.{Route}
use Rattle.image_stretch.specs.Stretches.{carried, stands_before, under}

module _ (R : ℕ → Route) (i : ℕ) (route : Route) (is : route ≡ R i) where
  pub before_found : (v l : ℕ) (p : Prefix) (t c : Bool) → p ≡ prefix route.value route.len → t ≡ precedes p.value p.len v l → t ≡ c
      → stands_before R v l i ≡ c
  before_found v l p t c e f g =
      ap (λ (r : Route). precedes r.value r.len v l) (sym is) ∙ ap (λ (q : Prefix). precedes q.value q.len v l) (sym e) ∙ sym f ∙ g

  pub under_found : (w v l : ℕ) (t c : Bool) → t ≡ matches w v l route.value → t ≡ c → under w R v l i ≡ c
  under_found w v l t c f g = ap (λ (r : Route). matches w v l r.value) (sym is) ∙ sym f ∙ g

  pub port_found : (w a port so : ℕ) → port ≡ cond (matches w route.value route.len a) (carried route) so
      → port ≡ cond (route_matches w a (R i)) (carried (R i)) so
  port_found w a port so e = e ∙ ap (λ (r : Route). cond (matches w r.value r.len a) (carried r) so) is

-- of a route's prefix
pub match_found : (w a : ℕ) (route : Route) (p : Prefix) (t c : Bool) → p ≡ prefix route.value route.len
    → t ≡ matches w p.value p.len a → t ≡ c → matches w route.value route.len a ≡ c
match_found w a route p t c e f g = ap (λ (q : Prefix). matches w q.value q.len a) (sym e) ∙ sym f ∙ g
