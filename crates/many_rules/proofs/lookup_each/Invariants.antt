use Rattle.many_rules.proofs.Filling.{Filling}
use Rattle.many_rules.proofs.lookup_each.Given as goal

abbrev pub invariant-loop-i : goal.invariant-loop-i
invariant-loop-i g l = Filling (g.L.Lookup.look l.lookup) l.addresses l.initial.out l.out l.some l.i
