use mathlib.Core.Path.{ap}
use Prim.Native.Nat.{ℕ, ◌-◌}
use native.Mathlib.Omega.{arith}
use Rattle.prefix.proofs.after_first.Goals as goal

pub returns : goal.returns
returns c = (ap (λ (s : ℕ). s - 1) c.span_of.ensures.is, omega (arith, c.span_of.ensures.some, c.span_of.ensures.most))
