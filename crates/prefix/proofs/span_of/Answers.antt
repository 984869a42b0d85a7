use native.Mathlib.Omega.{arith}
use Rattle.prefix.proofs.Spans.{span_shifted}
use Rattle.prefix.proofs.span_of.Goals as goal

pub returns : goal.returns
returns c = rw c.gap.ensures.0 (span_shifted 32 c.args.len (omega arith))
