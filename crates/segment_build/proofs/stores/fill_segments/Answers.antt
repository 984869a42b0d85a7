use mathlib.Core.Path.{refl}
use native.Mathlib.Omega.{arith}
use Rattle.segment_build.proofs.Walking.{walked_none, next_walked, next_passes}
use Rattle.segment_build.proofs.Storing.{stored_none, segment_room, stored_more, stored_all}
use Rattle.segment_build.proofs.stores.fill_segments.Goals as goal

pub loop-s-init : goal.loop-s-init
loop-s-init c = (omega arith, walked_none _ _ _ _ c.requires.ready.valid refl, stored_none _ _ _ _ _ _ c.requires)

pub put_segment-requires : goal.put_segment-requires
put_segment-requires c = let next = c.in-Some.ensures in
    segment_room _ _ _ _ _ _ c.requires _ _ _ next.met _ _ _ c.loop-s.invariant.2 _ next.is

pub loop-s-preserved : goal.loop-s-preserved
loop-s-preserved c = let next = c.in-Some.ensures in (
  (next_passes _ _ _ _ _ _ next).1,
  next_walked _ _ _ _ _ _ next,
  stored_more _ _ _ _ _ _ c.requires _ _ _ next.met _ _ _ c.loop-s.invariant.2 _ next.is _ _ _ c.put_segment.ensures,
)

pub returns : goal.returns
returns c = stored_all _ _ _ _ _ _ c.requires _ c.in_default.ensures _ _ _ c.loop-s.invariant.2
