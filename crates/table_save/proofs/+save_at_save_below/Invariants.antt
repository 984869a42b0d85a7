use Prim.Native.Nat.{◌*◌, ◌+◌}
use Rattle.table_save.proofs.+save_at_save_below.Given as goal

abbrev pub decreases-save_at : goal.decreases-save_at
decreases-save_at l = l.left * 2

abbrev pub decreases-save_below : goal.decreases-save_below
decreases-save_below l = l.left * 2 + 1
