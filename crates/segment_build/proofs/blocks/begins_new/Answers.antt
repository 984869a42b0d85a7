use mathlib.Core.Path.{ap}
use mathlib.Core.Bool.{◌&&◌}
use Prim.Native.Nat.{ℕ}
use lib.Dec.{leb, ltb}
use Rattle.segment_build.proofs.blocks.begins_new.Goals as goal

pub returns : goal.returns
returns c = let a = c.args in ap (λ (b : ℕ). ltb a.bits a.route.len && leb a.next b) c.block_of.ensures.0
