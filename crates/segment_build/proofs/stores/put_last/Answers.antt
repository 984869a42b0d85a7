use mathlib.Core.Path.{refl}
use Rattle.segment_build.proofs.PartsBack.{last_back}
use Rattle.segment_build.proofs.stores.put_last.Goals as goal

pub returns : goal.returns
returns c = last_back _ _ _ _ _ _ _ _ refl c.requires.0 c.requires.1 c.fill_ports.ensures
