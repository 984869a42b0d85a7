use native.Mathlib.Omega.{arith}
use mathlib.Core.Path.{ap}
use lib.ListN.{length}
use Rattle.page.specs.Text.{dotted}
use Rattle.page.proofs.Wrote.{wrote_more, wrote_as}
use Rattle.page.proofs.Text.{dotted_none, dotted_more, length_dotted_more}
use Rattle.page.proofs.put.+put_dotted.Goals as goal

pub put_number-requires : goal.put_number-requires
put_number-requires t c = omega (arith, ap length (dotted_none c.args.k c.args.a c.if-k-eq0.true), c.requires)

pub returns-then-k-eq0 : goal.returns-then-k-eq0
returns-then-k-eq0 t c = wrote_as (dotted c.args.k c.args.a) c.put_number.ensures (dotted_none c.args.k c.args.a c.if-k-eq0.true)

pub overflow_sub-k : goal.overflow_sub-k
overflow_sub-k t c = omega (arith, c.if-k-eq0.false)

pub put_dotted-point-requires : goal.put_dotted-point-requires
put_dotted-point-requires t c = (omega (arith, c.if-k-eq0.false), omega (arith, length_dotted_more c.args.k c.args.a c.if-k-eq0.false, c.requires))

pub put_byte-last-requires : goal.put_byte-last-requires
put_byte-last-requires t c = omega (arith, length_dotted_more c.args.k c.args.a c.if-k-eq0.false, c.requires, c.put_dotted-point.ensures.next_is_lem)

pub put_number-requires-2 : goal.put_number-requires-2
put_number-requires-2 t c = omega (arith, length_dotted_more c.args.k c.args.a c.if-k-eq0.false, c.requires, c.put_dotted-point.ensures.next_is_lem, c.put_byte-last.ensures.next_is_lem)

pub returns : goal.returns
returns t c = wrote_as (dotted c.args.k c.args.a) (wrote_more (wrote_more c.put_dotted-point.ensures c.put_byte-last.ensures) c.put_number-2.ensures) (dotted_more c.args.k c.args.a c.if-k-eq0.false)
