use Rattle.segment_build.proofs.PartsBack.{packed_back}
use Rattle.segment_build.proofs.stores.put_packed.Goals as goal

pub returns : goal.returns
returns c = packed_back _ _ _ _ c.requires.0 c.requires.1 c.pack.ensures
