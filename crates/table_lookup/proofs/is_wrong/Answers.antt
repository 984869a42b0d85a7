use Rattle.bits.specs.Prefix.{clear}
use Rattle.routes.proofs.Faults.{prefix_test}
use Rattle.table_lookup.proofs.is_wrong.Goals as goal

pub returns-then-n-x : goal.returns-then-n-x
returns-then-n-x c = rw c.if-n-x.true

pub returns : goal.returns
returns c = let zeros = prefix_test (clear 32) _ _ _ _ c.prefix_of.ensures c.is_clear.ensures in
    rw (c.if-n-x.false, zeros, c.is_port.ensures, c.on_path.ensures)
