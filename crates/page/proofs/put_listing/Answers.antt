use native.Mathlib.Omega.{arith}
use Rattle.page.proofs.Wrote.{wrote_more}
use Rattle.page.proofs.Text.{decimal_le}
use Rattle.page.proofs.put_listing.Goals as goal

pub put_number-b-requires : goal.put_number-b-requires
put_number-b-requires c = omega (arith, c.requires.room, decimal_le 10 10 c.args.n (omega arith) (omega (arith, c.requires.few)), c.put_bytes-a.ensures.next_is_lem)

pub put_byte-c-requires : goal.put_byte-c-requires
put_byte-c-requires c = omega (arith, c.requires.room, decimal_le 10 10 c.args.n (omega arith) (omega (arith, c.requires.few)), c.put_number-b.ensures.next_is_lem, c.put_bytes-a.ensures.next_is_lem)

pub put_lines-requires : goal.put_lines-requires
put_lines-requires c = record {
  there = c.requires.there;
  few = c.requires.few;
  room = omega (arith, c.requires.room, decimal_le 10 10 c.args.n (omega arith) (omega (arith, c.requires.few)), c.put_byte-c.ensures.next_is_lem, c.put_number-b.ensures.next_is_lem, c.put_bytes-a.ensures.next_is_lem);
}

pub returns : goal.returns
returns c = wrote_more (wrote_more (wrote_more c.put_bytes-a.ensures c.put_number-b.ensures) c.put_byte-c.ensures) c.put_lines.ensures
