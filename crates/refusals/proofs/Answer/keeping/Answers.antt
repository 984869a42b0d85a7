use mathlib.Core.Path.{ap}
use Rattle.refusals.specs.Refusals.{keeping_at}
use Rattle.refusals.specs.declared.Answer.{Answer}
use Rattle.refusals.proofs.Answer.keeping.Goals as goal

pub returns : goal.returns
returns c = ap (λ (x : Answer). keeping_at x.number x.place c.args.n) c.refused-answer.ensures
