use mathlib.Core.Path.{refl}
use native.Mathlib.Omega.{arith}
use Rattle.segment_ports.proofs.Ported.{ported}
use Rattle.segment_build.proofs.Walking.{walked_few, x_low, blocks_of, begun, segment_met}
use Rattle.segment_build.proofs.segments.segment_at.Goals as goal

pub overflow_mul-x : goal.overflow_mul-x
overflow_mul-x c = omega (arith, x_low _ _ _ _ _ _ c.requires)

pub name_lasts-last-requires : goal.name_lasts-last-requires
name_lasts-last-requires c = begun _ _ _ _ _ _ c.requires _ _ (ported _ _ _ _ _ _ _ (blocks_of _ _ _ _ _ _ c.requires) c.fill_ports-run.ensures)

pub walk_after-after-requires : goal.walk_after-after-requires
walk_after-after-requires c = let few = walked_few _ _ _ _ _ c.requires.ready c.requires.walked in
    let most = c.requires.ready.valid.few in
    (x_low _ _ _ _ _ _ c.requires, omega (arith, few.0), omega (arith, few.1))

pub returns : goal.returns
returns c = segment_met _ _ _ _ _ _ c.requires _ _ (ported _ _ _ _ _ _ _ (blocks_of _ _ _ _ _ _ c.requires) c.fill_ports-run.ensures) _ _ c.name_lasts-last.ensures _ c.is_packed-packed.ensures _ refl refl refl refl c.walk_after-after.ensures
