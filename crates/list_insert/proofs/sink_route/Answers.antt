use mathlib.Core.List.{List}
use Prim.Native.Nat.{ℕ, ◌+◌, ◌-◌}
use Rattle.list_insert.specs.Insertion.{sunk}
use Rattle.routes.specs.Routes.{store_route}
use mathlib.Core.Path.{◌≡◌, refl, ap, ◌∙◌}
use native.Mathlib.Omega.{arith}
use Rattle.list_insert.proofs.Loops.{sinking_last, sinking_here, sinking_next}
use Rattle.list_insert.proofs.sink_route.Goals as goal

pub loop-i-init : goal.loop-i-init
loop-i-init c = record { low = c.requires.0; rest = refl }

pub returns-then-stands_before : goal.returns-then-stands_before
returns-then-stands_before c = let l = c.loop-i in
    let up : l.i - 1 + 1 ≡ l.i = omega arith in
    c.store_whole.ensures
    ∙ ap (λ (j : ℕ). store_route l.list j c.args.q) up
    ∙ sinking_here l.list _ _ _ c.loop-i-test.true _ c.whole_route-before.ensures _ c.stands_before.ensures c.if-stands_before.true
    ∙ l.invariant.rest

pub loop-i-preserved : goal.loop-i-preserved
loop-i-preserved c = let l = c.loop-i in
    let up : l.i - 1 + 1 ≡ l.i = omega arith in
    record {
      low = omega arith;
      rest =
          ap (λ (ws : List ℕ). sunk ws c.args.at (l.i - 1 - c.args.at) c.args.q)
          (c.store_whole-in-loop-i.ensures ∙ ap (λ (j : ℕ). store_route l.list j c.whole_route-before.result) up)
          ∙ sinking_next l.list _ _ _ c.loop-i-test.true _ c.whole_route-before.ensures _ c.stands_before.ensures c.if-stands_before.false
          ∙ l.invariant.rest;
    }

pub returns : goal.returns
returns c = let l = c.loop-i in
    c.store_whole-2.ensures ∙ sinking_last l.list _ l.i _ c.loop-i-test.false ∙ l.invariant.rest
