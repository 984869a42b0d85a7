use mathlib.Core.Path.{◌≡◌, sym, ap, ◌∙◌}
use mathlib.Core.Bool.{Bool, true, false}
use borrow.Author.Tests.{eq-eqb, ne_eqb}
use Rattle.bits.specs.Prefix.{ahead_of}
use Rattle.prefix.specs.declared.Prefix.{Prefix}
use Rattle.routes.specs.declared.Route.{Route}
use Rattle.prefix.specs.Prefixes.{prefix}
use Rattle.table_change.proofs.refilling.first_route.Goals as goal

-- the order of two routes is that of their prefixes
ahead_is : (a b : Route) (p q : Prefix) (r t : Bool) → p ≡ prefix b.value b.len → q ≡ prefix a.value a.len
    → r ≡ ahead_of p.value p.len q.value q.len → r ≡ t → ahead_of b.value b.len a.value a.len ≡ t
ahead_is a b p q r t e f g h =
    sym (ap (λ (x : Prefix). ahead_of x.value x.len a.value a.len) e)
    ∙ sym (ap (λ (x : Prefix). ahead_of p.value p.len x.value x.len) f) ∙ sym g ∙ h

pub returns-then-b-eq0 : goal.returns-then-b-eq0
returns-then-b-eq0 c = simp (eq-eqb _ _ c.if-b-eq0.true)

pub returns-then-a-eq0 : goal.returns-then-a-eq0
returns-then-a-eq0 c = simp (ne_eqb _ _ c.if-b-eq0.false, eq-eqb _ _ c.if-a-eq0.true)

pub returns-then-is_ahead : goal.returns-then-is_ahead
returns-then-is_ahead c = let x = c.args in
    let e = ahead_is x.a x.b _ _ _ true c.prefix.ensures c.prefix-2.ensures c.is_ahead.ensures c.if-is_ahead.true in
    simp (ne_eqb _ _ c.if-b-eq0.false, ne_eqb _ _ c.if-a-eq0.false, e)

pub returns-else-is_ahead : goal.returns-else-is_ahead
returns-else-is_ahead c = let x = c.args in
    let e = ahead_is x.a x.b _ _ _ false c.prefix.ensures c.prefix-2.ensures c.is_ahead.ensures c.if-is_ahead.false in
    simp (ne_eqb _ _ c.if-b-eq0.false, ne_eqb _ _ c.if-a-eq0.false, e)
