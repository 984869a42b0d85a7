use mathlib.Core.Path.{◌≡◌}
use Prim.Native.Nat.{◌-◌}
use lib.ListN.{length, replicate}
use lib.Seq.{sets}
use Rattle.entries.proofs.fill.Given as goal

abbrev pub invariant-loop-i : goal.invariant-loop-i
invariant-loop-i l = (length l.store ≡ length l.initial.store) × (sets l.store l.i (replicate (l.past - l.i) l.entry) ≡ sets l.initial.store l.from (replicate (l.past - l.from) l.entry))
