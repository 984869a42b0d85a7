use mathlib.Core.Path.{refl}
use native.Mathlib.Omega.{arith}
use Rattle.segment_build.proofs.Walking.{walked_none, counted_all}
use Rattle.segment_build.proofs.segments.count_segments.Goals as goal

pub loop-s-init : goal.loop-s-init
loop-s-init c = (omega arith, walked_none _ _ _ _ c.requires.valid refl)

pub returns : goal.returns
returns c = counted_all _ _ _ _ c.requires c.in_default.ensures
