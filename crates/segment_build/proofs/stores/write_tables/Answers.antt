use Rattle.segment_build.proofs.Writing.{segments_room, lasts_room, tables_written}
use Rattle.segment_build.proofs.stores.write_tables.Goals as goal

pub fill_segments-requires : goal.fill_segments-requires
fill_segments-requires c = segments_room _ _ _ _ c.requires _ c.fill_first.ensures

pub fill_last-requires : goal.fill_last-requires
fill_last-requires c = lasts_room _ _ _ _ c.requires _ c.fill_first.ensures

pub returns : goal.returns
returns c = tables_written _ _ _ _ c.requires _ c.fill_first.ensures _ _ _ _ c.fill_segments.ensures c.fill_last.ensures
