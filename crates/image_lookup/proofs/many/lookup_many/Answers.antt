use mathlib.Core.Path.{ap, ◌∙◌}
use Rattle.std.proofs.Common.{Err, rules, tests}
use Rattle.promise.specs.Over.{outcome}
use Rattle.refusals.specs.Refusals.{answered}
use Rattle.image_lookup.specs.Many.{many_words}
use Rattle.image_lookup.proofs.many.lookup_many.Goals as goal

pub returns-in-1 : goal.returns-in-1
unfolding many_words
returns-in-1 c = rw c.in-1.is c.lookup_each.ensures

pub returns-in-2 : goal.returns-in-2
unfolding many_words
returns-in-2 c = rw c.in-2.is c.lookup_each-in-2.ensures

pub returns-in-4 : goal.returns-in-4
unfolding many_words
returns-in-4 c = rw c.in-4.is c.lookup_each-in-4.ensures

pub returns-in_default : goal.returns-in_default
unfolding many_words
returns-in_default c = ap (λ r. outcome (answered (Err r)) c.args.out.now) c.at.ensures ∙ search (tests, rules)
