use mathlib.Core.Path.{sym}
use Rattle.routes.proofs.Words.{store_whole_lem}
use Rattle.list_insert.proofs.store_whole.Goals as goal

pub returns : goal.returns
returns c = sym (store_whole_lem c.args.list.now c.args.i c.args.r c.requires)
