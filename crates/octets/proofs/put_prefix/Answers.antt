use mathlib.Core.Path.{sym, ◌∙◌}
use Prim.Native.Nat.{◌+◌}
use native.Mathlib.Omega.{arith}
use lib.ListN.{length}
use borrow.Author.Tests.{leb-true, leb-false}
use Rattle.octets.proofs.Store.{prefix_long, prefix_over, prefix_fits}
use Rattle.octets.proofs.put_prefix.Goals as goal

pub returns-then-len-gt32 : goal.returns-then-len-gt32
returns-then-len-gt32 c = let a = c.args in
    sym (prefix_long 32 a.bytes.now a.at a.p.value a.p.len c.if-len-gt32.true)

pub store_prefix-requires : goal.store_prefix-requires
store_prefix-requires c = let a = c.args in
    let h = leb-true (a.at + c.prefix_size.result) (length a.bytes.now) (sym c.are_there.ensures ∙ c.if-are_there.true) in
    (omega (arith, h, c.prefix_size.ensures.is), c.if-len-gt32.false)

pub returns-then-are_there : goal.returns-then-are_there
returns-then-are_there c = let a = c.args in
    let h = leb-true (a.at + c.prefix_size.result) (length a.bytes.now) (sym c.are_there.ensures ∙ c.if-are_there.true) in
    c.store_prefix.ensures
    ∙ sym (prefix_fits 32 a.bytes.now a.at a.p.value a.p.len c.if-len-gt32.false (omega (arith, h, c.prefix_size.ensures.is)))

pub returns-else-are_there : goal.returns-else-are_there
returns-else-are_there c = let a = c.args in
    let h = leb-false (a.at + c.prefix_size.result) (length a.bytes.now) (sym c.are_there.ensures ∙ c.if-are_there.false) in
    sym (prefix_over 32 a.bytes.now a.at a.p.value a.p.len c.if-len-gt32.false (omega (arith, h, c.prefix_size.ensures.is)))
