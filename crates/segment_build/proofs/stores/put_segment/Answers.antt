use mathlib.Core.Path.{sym, ap, ◌∙◌}
use Prim.Native.Nat.{ℕ}
use native.Mathlib.Omega.{arith}
use lib.ListN.{set}
use Rattle.segment_build.proofs.stores.put_segment.Goals as goal

pub put_packed-requires : goal.put_packed-requires
put_packed-requires c = (c.requires.packed_room c.if-s.true, sym c.requires.is ∙ c.if-s.true)

pub pointer_to-requires : goal.pointer_to-requires
pointer_to-requires c = (omega arith, c.requires.packed_few)

pub bounds-first-s : goal.bounds-first-s
bounds-first-s c = c.requires.entry

pub returns-then-s : goal.returns-then-s
returns-then-s c = record {
  first_is = rw c.if-s.true (ap (λ (v : ℕ). set c.args.first.now c.args.s.now.x v) c.pointer_to.ensures);
  packed_is = rw c.if-s.true c.put_packed.ensures;
  plain_is = rw c.if-s.true;
}

pub put_plain-requires : goal.put_plain-requires
put_plain-requires c = c.requires.plain_room c.if-s.false

pub pointer_to-requires-2 : goal.pointer_to-requires-2
pointer_to-requires-2 c = (omega arith, c.requires.plain_few)

pub bounds-first-s-2 : goal.bounds-first-s-2
bounds-first-s-2 c = c.requires.entry

pub returns : goal.returns
returns c = record {
  first_is = rw c.if-s.false (ap (λ (v : ℕ). set c.args.first.now c.args.s.now.x v) c.pointer_to-2.ensures);
  packed_is = rw c.if-s.false;
  plain_is = rw c.if-s.false c.put_plain.ensures;
}
