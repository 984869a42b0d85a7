use mathlib.Core.Path.{sym, ap, subst, ◌∙◌}
use mathlib.Core.List.{List}
use Prim.Native.Nat.{ℕ, ◌+◌, ◌-◌, ◌*◌, ◌^◌, ◌<◌}
use native.Mathlib.Omega.{arith}
use native.Mathlib.Nat.{sub-zero}
use lib.ListN.{get_or}
use Rattle.lists.specs.Numbered.{list_of}
use Rattle.runs_rules.specs.Runs.{Run, run_at}
use Rattle.count_make.specs.Adding.{added_runs}
use Rattle.count_make.proofs.Added.{added_more, added_none, added_small}
use Rattle.count_make.proofs.add_runs.Goals as goal

pub loop-i-init : goal.loop-i-init
loop-i-init c = (
  ap (λ (m : ℕ). added_runs c.args.counts.now (list_of (run_at c.args.runs.now) m 0)) (sub-zero c.args.k),
  λ port low. omega (arith, c.requires.small port low),
)

pub overflow_mul-at : goal.overflow_mul-at
overflow_mul-at c = omega (arith, c.requires.few)

pub bounds-runs-at : goal.bounds-runs-at
bounds-runs-at c = omega (arith, c.requires.lent)

pub overflow_add-at : goal.overflow_add-at
overflow_add-at c = omega (arith, c.requires.few)

pub bounds-runs-at-in-loop-i : goal.bounds-runs-at-in-loop-i
bounds-runs-at-in-loop-i c = omega (arith, c.requires.lent)

pub overflow_add-at-in-loop-i : goal.overflow_add-at-in-loop-i
overflow_add-at-in-loop-i c = omega (arith, c.requires.few)

pub bounds-runs-at-in-loop-i-2 : goal.bounds-runs-at-in-loop-i-2
bounds-runs-at-in-loop-i-2 c = omega (arith, c.requires.lent)

pub add_run-requires : goal.add_run-requires
add_run-requires c = let l = c.loop-i in
    let k = c.shared_slice_known-1.given in
    record {
      some = c.requires.some l.i c.loop-i-test.true;
      counted = omega (arith, c.requires.counted l.i c.loop-i-test.true, c.requires.room, l.auto.counts);
      small = omega (arith, l.invariant.1 (run_at c.args.runs.now l.i).port (c.requires.counted l.i c.loop-i-test.true), k (l.i * 3), k (l.i * 3 + 1));
    }

pub loop-i-preserved : goal.loop-i-preserved
loop-i-preserved c = let l = c.loop-i in
    let t = c.loop-i-test.true in
    let k = c.shared_slice_known-1.given in
    let ws = c.args.runs.now in
    let r : Run = run_at ws l.i in
    let x = c.add_run.ensures in (
      ap (λ (xs : List ℕ). added_runs xs (list_of (run_at ws) (c.args.k - (l.i + 1)) (l.i + 1))) x
          ∙ sym (added_more (run_at ws) l.counts c.args.k l.i t)
          ∙ l.invariant.0,
      λ port low.
          subst (λ (xs : List ℕ). get_or xs port 0 + (c.args.k - (l.i + 1)) * 2 ^ 32 < 2 ^ 64) (sym x)
          (added_small l.counts r c.args.k l.i t (omega (arith, c.requires.counted l.i t, c.requires.room, l.auto.counts)) (omega (arith, k (l.i * 3 + 1))) (c.requires.counted l.i t) l.invariant.1 port low),
    )

pub returns : goal.returns
returns c = let l = c.loop-i in
    sym (added_none (run_at c.args.runs.now) l.counts c.args.k l.i (omega (arith, c.loop-i-test.false))) ∙ l.invariant.0
