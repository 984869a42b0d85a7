use native.Mathlib.Omega.{arith}
use Rattle.page.proofs.Wrote.{wrote_more}
use Rattle.page.proofs.Text.{decimal_le, dotted_le}
use Rattle.page.proofs.put_line.Goals as goal

pub put_dotted-a-requires : goal.put_dotted-a-requires
put_dotted-a-requires c = omega (arith, c.requires, dotted_le 3 c.args.first (omega arith), dotted_le 3 c.args.last (omega arith), decimal_le 10 10 c.args.port (omega arith) (omega arith))

pub put_byte-b-requires : goal.put_byte-b-requires
put_byte-b-requires c = omega (arith, c.requires, dotted_le 3 c.args.first (omega arith), dotted_le 3 c.args.last (omega arith), decimal_le 10 10 c.args.port (omega arith) (omega arith), c.put_dotted-a.ensures.next_is_lem)

pub put_dotted-c-requires : goal.put_dotted-c-requires
put_dotted-c-requires c = omega (arith, c.requires, dotted_le 3 c.args.first (omega arith), dotted_le 3 c.args.last (omega arith), decimal_le 10 10 c.args.port (omega arith) (omega arith), c.put_dotted-a.ensures.next_is_lem, c.put_byte-b.ensures.next_is_lem)

pub put_byte-d-requires : goal.put_byte-d-requires
put_byte-d-requires c = omega (arith, c.requires, dotted_le 3 c.args.first (omega arith), dotted_le 3 c.args.last (omega arith), decimal_le 10 10 c.args.port (omega arith) (omega arith), c.put_dotted-a.ensures.next_is_lem, c.put_byte-b.ensures.next_is_lem, c.put_dotted-c.ensures.next_is_lem)

pub put_number-e-requires : goal.put_number-e-requires
put_number-e-requires c = omega (arith, c.requires, dotted_le 3 c.args.first (omega arith), dotted_le 3 c.args.last (omega arith), decimal_le 10 10 c.args.port (omega arith) (omega arith), c.put_dotted-a.ensures.next_is_lem, c.put_byte-b.ensures.next_is_lem, c.put_dotted-c.ensures.next_is_lem, c.put_byte-d.ensures.next_is_lem)

pub put_byte-requires : goal.put_byte-requires
put_byte-requires c = omega (arith, c.requires, dotted_le 3 c.args.first (omega arith), dotted_le 3 c.args.last (omega arith), decimal_le 10 10 c.args.port (omega arith) (omega arith), c.put_dotted-a.ensures.next_is_lem, c.put_byte-b.ensures.next_is_lem, c.put_dotted-c.ensures.next_is_lem, c.put_byte-d.ensures.next_is_lem, c.put_number-e.ensures.next_is_lem)

pub returns : goal.returns
returns c = wrote_more (wrote_more (wrote_more (wrote_more (wrote_more c.put_dotted-a.ensures c.put_byte-b.ensures) c.put_dotted-c.ensures) c.put_byte-d.ensures) c.put_number-e.ensures) c.put_byte.ensures
