use mathlib.Core.Path.{ap, ◌∙◌}
use Prim.Native.Nat.{ℕ}
use Rattle.octets.specs.Octets.{prefix_from}
use Rattle.prefix.specs.Prefixes.{prefix}
use Rattle.octets.proofs.prefix_from.Goals as goal

pub returns : goal.returns
returns c = let a = c.args in
    ap (λ (v : ℕ). prefix v c.up_to-bits.result) c.value_from-value.ensures
    ∙ ap (prefix_from 32 a.bytes.now a.from) c.up_to-bits.ensures.0
