use mathlib.Core.Path.{sym}
use native.Mathlib.Omega.{arith}
use Rattle.page.proofs.Wrote.{wrote_more}
use Rattle.page.proofs.Text.{decimal_le}
use Rattle.page.proofs.put_refusal.Goals as goal

pub put_number-b-requires : goal.put_number-b-requires
put_number-b-requires c = omega (arith, c.requires, decimal_le 10 10 c.from-number.result (omega arith) (omega arith), decimal_le 10 10 c.args.refusal.place (omega arith) (omega arith), c.put_bytes-a.ensures.next_is_lem)

pub put_byte-c-requires : goal.put_byte-c-requires
put_byte-c-requires c = omega (arith, c.requires, decimal_le 10 10 c.from-number.result (omega arith) (omega arith), decimal_le 10 10 c.args.refusal.place (omega arith) (omega arith), c.put_bytes-a.ensures.next_is_lem, c.put_number-b.ensures.next_is_lem)

pub put_number-d-requires : goal.put_number-d-requires
put_number-d-requires c = omega (arith, c.requires, decimal_le 10 10 c.from-number.result (omega arith) (omega arith), decimal_le 10 10 c.args.refusal.place (omega arith) (omega arith), c.put_bytes-a.ensures.next_is_lem, c.put_number-b.ensures.next_is_lem, c.put_byte-c.ensures.next_is_lem)

pub put_byte-requires : goal.put_byte-requires
put_byte-requires c = omega (arith, c.requires, decimal_le 10 10 c.from-number.result (omega arith) (omega arith), decimal_le 10 10 c.args.refusal.place (omega arith) (omega arith), c.put_bytes-a.ensures.next_is_lem, c.put_number-b.ensures.next_is_lem, c.put_byte-c.ensures.next_is_lem, c.put_number-d.ensures.next_is_lem)

pub returns : goal.returns
returns c = rw (sym c.from-number.ensures) (wrote_more (wrote_more (wrote_more (wrote_more c.put_bytes-a.ensures c.put_number-b.ensures) c.put_byte-c.ensures) c.put_number-d.ensures) c.put_byte.ensures)
