use native.Mathlib.Omega.{arith}
use native.Mathlib.Nat.{mod-le}
use Rattle.prefix.proofs.Spans.{first_sub}
use Rattle.prefix.proofs.Prefix.first.Goals as goal

pub overflow_sub-result : goal.overflow_sub-result
overflow_sub-result c = omega (arith, mod-le c.args.self.value c.span_of.result)

pub returns : goal.returns
returns c = rw c.span_of.ensures.is (first_sub 32 c.args.self.value c.args.self.len)
