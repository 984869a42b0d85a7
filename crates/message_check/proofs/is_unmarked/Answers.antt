use mathlib.Core.Path.{◌≡◌}
use native.Mathlib.Omega.{arith}
use lib.ListN.{get_or}
use borrow.Author.Count.{below_none, below_more}
use Rattle.message_rules.specs.Message.{ones}
use Rattle.message_check.proofs.Returns.{marked_not, marked_all}
use Rattle.message_check.proofs.is_unmarked.Goals as goal

pub loop-i-init : goal.loop-i-init
loop-i-init c = below_none (λ j. get_or c.args.message.now j 0 ≡ ones)

pub bounds-message-i : goal.bounds-message-i
bounds-message-i c = omega (arith, c.loop-i-test.true, c.requires)

pub returns-then-message-i : goal.returns-then-message-i
returns-then-message-i c = marked_not c.args.message.now c.loop-i.i c.loop-i-test.true c.if-message-i.true

pub loop-i-preserved : goal.loop-i-preserved
loop-i-preserved c = below_more (λ j. get_or c.args.message.now j 0 ≡ ones) c.loop-i.i c.loop-i.invariant c.if-message-i.false

pub returns : goal.returns
returns c = marked_all c.args.message.now c.loop-i.i c.loop-i-test.false c.loop-i.invariant
