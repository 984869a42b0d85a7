use mathlib.Core.Path.{◌≡◌, sym, ◌∙◌}
use mathlib.Core.Bool.{true, false}
use Rattle.bits.specs.Bits.{bit_before}
use Rattle.table_lookup.proofs.child_on.Goals as goal

pub returns-then-bit_before : goal.returns-then-bit_before
returns-then-bit_before c = let a = c.args in
    let e : bit_before a.address a.k ≡ true = sym c.bit_before.ensures ∙ c.if-bit_before.true in
    rw e

pub returns-else-bit_before : goal.returns-else-bit_before
returns-else-bit_before c = let a = c.args in
    let e : bit_before a.address a.k ≡ false = sym c.bit_before.ensures ∙ c.if-bit_before.false in
    rw e
