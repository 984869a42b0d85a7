use Rattle.std.proofs.Common.{ℕ}
use Rattle.refusals.specs.declared.found.Found.{Found}
use Rattle.many_rules.specs.Many.{Gives}
use Rattle.many_rules.proofs.Filling.{Filling}
use Rattle.many_rules.proofs.lookup_many.Given as goal

abbrev pub invariant-loop-i : goal.invariant-loop-i
invariant-loop-i g l = (look : ℕ → Found) → Gives (goal.F-post g l.element) look → Filling look l.addresses l.initial.out l.out l.some l.i
