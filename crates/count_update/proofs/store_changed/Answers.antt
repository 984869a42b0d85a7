use mathlib.Core.Path.{refl, ap, ◌∙◌}
use mathlib.Core.List.{List}
use Prim.Native.Nat.{ℕ}
use native.Mathlib.Omega.{arith}
use lib.ListN.{get_or, set}
use Rattle.count_update.proofs.Counts.{stored_next, skipped_next, stored_all}
use Rattle.count_update.proofs.store_changed.Goals as goal

pub loop-port-init : goal.loop-port-init
loop-port-init c = refl

pub loop-port-preserved-then-counts-port : goal.loop-port-preserved-then-counts-port
loop-port-preserved-then-counts-port c = let l = c.loop-port in
    skipped_next c.args.fresh.now c.args.counts.now l.counts l.port (omega (arith, c.requires.made)) (omega (arith, c.requires.room)) l.invariant c.if-counts-port.true

pub loop-port-preserved : goal.loop-port-preserved
loop-port-preserved c = let l = c.loop-port in
    let fresh = c.args.fresh.now in
    ap (λ (xs : List ℕ). set xs l.port (get_or fresh l.port 0)) l.invariant
    ∙ stored_next fresh c.args.counts.now l.port (omega (arith, c.requires.made)) (omega (arith, c.requires.room))

pub returns : goal.returns
returns c = let l = c.loop-port in
    l.invariant ∙ stored_all c.args.fresh.now c.args.counts.now l.port (omega (arith, c.requires.made))
