use native.Mathlib.Omega.{arith}
use Rattle.table_lookup.proofs.GoodWalk.{good_past, good_none, good_seen}
use Rattle.table_lookup.proofs.is_good.Goals as goal

pub returns-then-capacity_of-n : goal.returns-then-capacity_of-n
returns-then-capacity_of-n c = good_past 32 _ _ _ (omega arith)

pub returns-then-n-eq0 : goal.returns-then-n-eq0
returns-then-n-eq0 c = good_none 32 _ _ _ (omega arith) c.if-n-eq0.true

pub returns-in-Some : goal.returns-in-Some
returns-in-Some c = good_seen 32 _ _ _ (omega arith) c.if-n-eq0.false _ c.in-Some.ensures

pub returns-in-None : goal.returns-in-None
returns-in-None c = good_seen 32 _ _ _ (omega arith) c.if-n-eq0.false _ c.in-None.ensures
