use mathlib.Core.Path.{◌∙◌}
use Rattle.octets.proofs.TakeReturns.{prefix_is, taken_past, taken_long, taken_cut, taken_whole}
use Rattle.octets.proofs.take_prefix.Goals as goal

pub returns-then-bytes-at : goal.returns-then-bytes-at
returns-then-bytes-at c = let a = c.args in
    taken_past 32 a.bytes.now a.at c.if-bytes-at.true

pub returns-then-len-gt32 : goal.returns-then-len-gt32
returns-then-len-gt32 c = let a = c.args in
    taken_long 32 a.bytes.now a.at _ c.length_at-len.ensures.is c.if-len-gt32.true

pub returns-then-bytes-at-2 : goal.returns-then-bytes-at-2
returns-then-bytes-at-2 c = let a = c.args in
    taken_cut 32 a.bytes.now a.at _ c.length_at-len.ensures.is c.if-len-gt32.false _ c.prefix_size.ensures.is c.if-bytes-at-2.true

pub returns : goal.returns
returns c = let a = c.args in
    taken_whole 32 a.bytes.now a.at _ c.length_at-len.ensures.is c.if-len-gt32.false _ c.prefix_size.ensures.is c.if-bytes-at-2.false _ (c.prefix_from.ensures ∙ prefix_is 32 a.bytes.now a.at _ c.length_at-len.ensures.is c.if-len-gt32.false)
