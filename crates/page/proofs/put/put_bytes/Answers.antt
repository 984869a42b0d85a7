use native.Mathlib.Omega.{arith}
use lib.Seq.{length-take-le}
use Rattle.page.proofs.Wrote.{wrote_none, wrote_next, wrote_all}
use Rattle.page.proofs.put.put_bytes.Goals as goal

pub loop-byte-init : goal.loop-byte-init
loop-byte-init c = wrote_none

pub put_byte-next-requires : goal.put_byte-next-requires
put_byte-next-requires c = let l = c.loop-byte in
    omega (arith, l.auto.out, l.invariant.next_is_lem, length-take-le l.byte-index c.args.bytes.now l.auto.byte-index-end, c.requires, c.loop-byte-test.true)

pub loop-byte-preserved : goal.loop-byte-preserved
loop-byte-preserved c = let l = c.loop-byte in
    wrote_next c.args.bytes.now l.byte-index c.loop-byte-test.true l.invariant c.put_byte-next.ensures

pub returns : goal.returns
returns c = let l = c.loop-byte in
    wrote_all c.args.bytes.now l.byte-index c.loop-byte-test.false l.invariant
