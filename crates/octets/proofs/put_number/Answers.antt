use mathlib.Core.Path.{sym, ◌∙◌}
use Prim.Native.Nat.{◌+◌}
use lib.ListN.{length}
use borrow.Author.Tests.{leb-true, leb-false}
use Rattle.octets.proofs.Store.{number_over, number_stored}
use Rattle.octets.proofs.put_number.Goals as goal

pub store_number-requires : goal.store_number-requires
store_number-requires c = let a = c.args in
    (leb-true (a.at + c.up_to-most.result) (length a.bytes.now) (sym c.are_there.ensures ∙ c.if-are_there.true), c.up_to-most.ensures.1)

pub returns-then-are_there : goal.returns-then-are_there
returns-then-are_there c = let a = c.args in
    c.store_number.ensures
    ∙ sym (number_stored a.bytes.now a.at a.k a.x _ c.up_to-most.ensures.0
    (leb-true (a.at + c.up_to-most.result) (length a.bytes.now) (sym c.are_there.ensures ∙ c.if-are_there.true)))

pub returns-else-are_there : goal.returns-else-are_there
returns-else-are_there c = let a = c.args in
    sym (number_over a.bytes.now a.at a.k a.x _ c.up_to-most.ensures.0
    (leb-false (a.at + c.up_to-most.result) (length a.bytes.now) (sym c.are_there.ensures ∙ c.if-are_there.false)))
