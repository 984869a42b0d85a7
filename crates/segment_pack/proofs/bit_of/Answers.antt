use native.Mathlib.Omega.{arith}
use Rattle.segment_pack.proofs.Codewords.{bit_first, bit_same, bit_differs}
use Rattle.segment_pack.proofs.bit_of.Goals as goal

pub returns-then-i-eq0 : goal.returns-then-i-eq0
returns-then-i-eq0 c = (bit_first _ _ c.if-i-eq0.true, omega arith)

pub returns-then-entries-i : goal.returns-then-entries-i
returns-then-entries-i c = (bit_same _ _ c.if-i-eq0.false c.if-entries-i.true, omega arith)

pub returns : goal.returns
returns c = (bit_differs _ _ c.if-i-eq0.false c.if-entries-i.false, omega arith)
