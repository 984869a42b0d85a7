use Prim.Native.Nat.{◌-◌, ◌*◌, ◌+◌}
use Rattle.table_lookup.proofs.good.+seen_at_seen_below.Given as goal

abbrev pub decreases-seen_at : goal.decreases-seen_at
decreases-seen_at l = (32 - l.path.len) * 2

abbrev pub decreases-seen_below : goal.decreases-seen_below
decreases-seen_below l = (32 - l.path.len) * 2 + 1
