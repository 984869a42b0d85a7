use mathlib.Core.Path.{refl}
use native.Mathlib.Omega.{arith}
use Rattle.segment_pack.proofs.Codewords.{coded_none, coded_more, coded_all}
use Rattle.segment_pack.proofs.codes_of.Goals as goal

pub loop-c-init : goal.loop-c-init
loop-c-init c = coded_none _ _ refl

pub loop-c-preserved : goal.loop-c-preserved
loop-c-preserved c = coded_more _ _ refl c.loop-c.invariant c.loop-c-test.true _ _ c.eight_bits-eight.ensures.0 refl c.eight_bits-eight.ensures.1

pub returns : goal.returns
returns c = coded_all _ _ refl c.loop-c.invariant (omega arith)
