use Rattle.segment_ports.proofs.Within.{within_large, within_late, within_rest}
use Rattle.segment_ports.proofs.lie_within.Goals as goal

pub returns-then-shift-gt32 : goal.returns-then-shift-gt32
returns-then-shift-gt32 c = within_large _ _ _ c.if-shift-gt32.true

pub returns-then-most-block : goal.returns-then-most-block
returns-then-most-block c = within_late _ _ _ c.if-shift-gt32.false c.if-most-block.true

pub returns : goal.returns
returns c = within_rest _ _ _ c.if-shift-gt32.false c.if-most-block.false
