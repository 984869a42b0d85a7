use lib.ListN.{take}
use Rattle.page.specs.Needs.{Wrote}
use Rattle.page.proofs.put.put_bytes.Given as goal

abbrev pub invariant-loop-byte : goal.invariant-loop-byte
invariant-loop-byte l = Wrote l.initial.out l.at (take l.byte-index l.bytes) l.next l.out
