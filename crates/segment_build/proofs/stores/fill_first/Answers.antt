use Rattle.segment_build.proofs.PartsBack.{ports_back}
use native.Mathlib.Omega.{arith}
use Rattle.segment_ports.specs.Needs.{Blocks}
use Rattle.segment_build.proofs.stores.fill_first.Goals as goal

first_blocks : Blocks 0 65536 16
first_blocks = record { small = omega arith; few = omega arith; within = omega arith }

pub returns : goal.returns
returns c = ports_back _ 0 _ _ 0 0 65536 16 _ c.requires first_blocks c.fill_ports.ensures
