use mathlib.Core.Path.{refl}
use Prim.Native.Nat.{◌-◌, ◌^◌}
use native.Mathlib.Omega.{arith}
use native.Mathlib.Nat.{div-le_self}
use Rattle.segment_build.proofs.blocks.block_of.Goals as goal

pub returns : goal.returns
returns c = let a = c.args in (refl, omega (arith, div-le_self a.route.value (2 ^ (32 - a.bits))))
