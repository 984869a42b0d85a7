use mathlib.Core.Path.{ap, ◌∙◌}
use mathlib.Core.List.{List}
use Prim.Native.Nat.{ℕ, ◌+◌, ◌-◌}
use native.Mathlib.Omega.{arith}
use Rattle.list_insert.specs.Insertion.{risen}
use Rattle.list_insert.proofs.Loops.{rising_last, rising_here, rising_next}
use Rattle.list_insert.proofs.rise_route.Goals as goal

pub returns-then-not-stands_before : goal.returns-then-not-stands_before
returns-then-not-stands_before c = let l = c.loop-i in
    c.store_whole.ensures
    ∙ rising_here l.list _ _ _ (omega arith) _ c.whole_route-after.ensures _ c.stands_before.ensures c.if-not-stands_before.true
    ∙ l.invariant

pub loop-i-preserved : goal.loop-i-preserved
loop-i-preserved c = let l = c.loop-i in
    ap (λ (ws : List ℕ). risen ws (l.i + 1) (c.args.end - (l.i + 1 + 1)) c.args.q) c.store_whole-in-loop-i.ensures
    ∙ rising_next l.list _ _ _ (omega arith) _ c.whole_route-after.ensures _ c.stands_before.ensures c.if-not-stands_before.false
    ∙ l.invariant

pub returns : goal.returns
returns c = let l = c.loop-i in
    c.store_whole-2.ensures ∙ rising_last l.list l.i _ _ (omega arith) ∙ l.invariant
