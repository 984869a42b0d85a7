use Prim.Native.Nat.{◌+◌, ◌-◌, ◌*◌, ◌≤◌}
use mathlib.Core.Path.{◌≡◌}
use lib.ListN.{length}
use Rattle.lists.specs.Numbered.{list_of}
use Rattle.runs_rules.specs.Runs.{run_at}
use Rattle.page.specs.Page.{lines_of, line_room}
use Rattle.page.specs.Needs.{Wrote}
use Rattle.page.proofs.put_lines.Given as goal

abbrev pub invariant-loop-i : goal.invariant-loop-i
invariant-loop-i l = (l.next ≤ l.at + l.i * line_room) × Wrote l.initial.out l.at (lines_of (list_of (run_at l.runs) l.i 0)) l.next l.out
