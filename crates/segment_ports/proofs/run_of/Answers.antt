use mathlib.Core.Path.{◌≡◌, refl, sym, ap, ◌∙◌}
use Prim.Native.Nat.{◌<◌, ◌≤◌}
use native.Mathlib.Omega.{arith}
use Rattle.segment_ports.specs.RunSearch.{run_count, run_end, run_of}
use Rattle.segment_ports.proofs.Runs.{run_of_here, run_of_passed, run_of_past}
use Rattle.segment_ports.proofs.run_of.Goals as goal

pub loop-run-init : goal.loop-run-init
loop-run-init c = record { within = omega arith; is = refl }

pub returns-then-address-run_end : goal.returns-then-address-run_end
returns-then-address-run_end c = let a = c.args in
    sym (c.loop-run.invariant.is ∙ run_of_here a.runs.now c.loop-run.run a.address (omega (arith, c.run_end.ensures)))

pub loop-run-preserved : goal.loop-run-preserved
loop-run-preserved c = let a = c.args in
    record {
      within = omega arith;
      is = c.loop-run.invariant.is ∙ run_of_passed a.runs.now c.loop-run.run a.address (omega arith) (omega (arith, c.run_end.ensures));
    }

pub returns : goal.returns
returns c = let a = c.args in
    let l = c.loop-run in
    let last : c.max.result ≡ l.run = omega (arith, c.max.ensures) in
    last ∙ sym (l.invariant.is ∙ run_of_past a.runs.now l.run a.address (omega arith))
