use Rattle.table_change.proofs.Withdraw.{refill_same, refill_other}
use Rattle.table_rows.specs.Words.{five_words}
use Rattle.table_change.proofs.refilling.refill_for.Goals as goal

pub returns-then-is_same : goal.returns-then-is_same
returns-then-is_same c = let d = c.args in
    refill_same 32 (five_words.get d.rows.now) d.x d.left d.q c.is_same.result c.is_same.ensures c.refill_with.result c.if-is_same.true c.best_child-a.result c.best_child-b.result c.first_route-best.result c.best_child-a.ensures c.best_child-b.ensures c.first_route-best.ensures c.refill_with.ensures

pub returns : goal.returns
returns c = let d = c.args in
    refill_other 32 (five_words.get d.rows.now) d.x d.left d.q c.is_same.result c.is_same.ensures c.refill_with-2.result c.if-is_same.false c.route_of.result c.route_of.ensures c.refill_with-2.ensures
