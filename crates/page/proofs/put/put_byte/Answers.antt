use Rattle.page.proofs.Wrote.{wrote_byte}
use Rattle.page.proofs.put.put_byte.Goals as goal

pub returns : goal.returns
returns c = wrote_byte c.args.byte c.requires
