use mathlib.Core.Path.{ap}
use mathlib.Core.Bool.{not, ◌||◌}
use Prim.Native.Nat.{ℕ}
use lib.Dec.{eqb, ltb}
use lib.ListN.{length}
use Rattle.message_rules.specs.Message.{least_size, most_size}
use Rattle.message_check.proofs.is_wrong_length.Goals as goal

pub returns : goal.returns
returns c = let size = length c.args.message.now in
    ap (λ (f : ℕ). ltb f least_size || ltb most_size f || not (eqb f size)) c.field_at-stated.ensures.is
