use mathlib.Core.Path.{ap, ◌∙◌}
use Rattle.table_rules.specs.Rows.{child}
use Rattle.table_change.proofs.refilling.refill_with.Goals as goal

pub returns : goal.returns
returns c = let b = c.bit_before-right.ensures in
    let k = c.child_of.ensures ∙ ap (child c.args.x) b in
    λ i. record { holder = c.args.holder; taken = c.args.taken; right = b i; child = k i }
