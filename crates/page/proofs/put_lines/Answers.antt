use Prim.Native.Nat.{◌+◌, ◌-◌, ◌*◌}
use mathlib.Core.Path.{◌≡◌, refl}
use lib.ListN.{get_or}
use native.Mathlib.Omega.{arith}
use Rattle.lists.specs.Numbered.{list_of}
use Rattle.runs_rules.specs.Runs.{run_at}
use Rattle.page.proofs.Wrote.{wrote_none}
use Rattle.page.proofs.Lines.{line_le, wrote_line}
use Rattle.page.proofs.put_lines.Goals as goal

pub loop-i-init : goal.loop-i-init
unfolding list_of
loop-i-init c = (omega arith, wrote_none)

pub overflow_mul-row : goal.overflow_mul-row
overflow_mul-row c = omega (arith, c.requires.few)

pub bounds-runs-row : goal.bounds-runs-row
bounds-runs-row c = omega (arith, c.requires.there, c.loop-i-test.true)

pub overflow_add-row : goal.overflow_add-row
overflow_add-row c = omega (arith, c.requires.few, c.loop-i-test.true)

pub bounds-runs-row-in-loop-i : goal.bounds-runs-row-in-loop-i
bounds-runs-row-in-loop-i c = omega (arith, c.requires.there, c.loop-i-test.true)

pub overflow_add-row-in-loop-i : goal.overflow_add-row-in-loop-i
overflow_add-row-in-loop-i c = omega (arith, c.requires.few, c.loop-i-test.true)

pub bounds-runs-row-in-loop-i-2 : goal.bounds-runs-row-in-loop-i-2
bounds-runs-row-in-loop-i-2 c = omega (arith, c.requires.there, c.loop-i-test.true)

pub put_line-next-requires : goal.put_line-next-requires
put_line-next-requires c = let l = c.loop-i in
    omega (arith, c.requires.room, l.auto.out, l.invariant.0, c.loop-i-test.true)

pub loop-i-preserved : goal.loop-i-preserved
loop-i-preserved c = let l = c.loop-i in
    let k = c.shared_slice_known-1.given in
    let w = c.args.runs.now in
    let p = c.put_line-next.ensures in
    (omega (arith, l.invariant.0, p.next_is_lem, line_le (get_or w (l.i * 3) 0) (get_or w (l.i * 3 + 1) 0) (get_or w (l.i * 3 + 2) 0) (omega (arith, k (l.i * 3))) (omega (arith, k (l.i * 3 + 1))) (omega (arith, k (l.i * 3 + 2)))), wrote_line (run_at w) l.i l.invariant.1 p)

pub returns : goal.returns
returns c = let l = c.loop-i in
    let all : l.i ≡ c.args.n = omega arith in
    rw all at l.invariant.1
