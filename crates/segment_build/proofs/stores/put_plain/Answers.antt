use Rattle.segment_build.proofs.PartsBack.{plain_back}
use Rattle.segment_build.proofs.stores.put_plain.Goals as goal

pub returns : goal.returns
returns c = plain_back _ _ _ _ c.requires c.copy.ensures
