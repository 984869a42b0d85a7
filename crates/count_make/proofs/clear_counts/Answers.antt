use mathlib.Core.Path.{◌≡◌, refl, ap, ◌∙◌}
use mathlib.Core.List.{List}
use Prim.Native.Nat.{ℕ}
use native.Mathlib.Omega.{arith}
use lib.ListN.{set}
use Rattle.promise.specs.Over.{over}
use Rattle.lists.specs.Numbered.{list_of}
use Rattle.count_rules.specs.Tally.{ports}
use Rattle.count_make.specs.Adding.{noughts}
use Rattle.count_make.proofs.Added.{noughts_push}
use Rattle.count_make.proofs.clear_counts.Goals as goal

pub loop-port-init : goal.loop-port-init
unfolding list_of
loop-port-init c = refl

pub loop-port-preserved : goal.loop-port-preserved
loop-port-preserved c = let l = c.loop-port in
    ap (λ (xs : List ℕ). set xs l.port 0) l.invariant ∙ noughts_push c.args.counts.now l.port (omega (arith, c.requires, l.auto.counts))

pub returns : goal.returns
returns c = let l = c.loop-port in
    let e : l.port ≡ ports = omega arith in
    l.invariant ∙ ap (λ (k : ℕ). over (noughts k) c.args.counts.now) e
