use mathlib.Core.Path.{ap, sym}
use mathlib.Core.Bool.{Bool, cond}
use Prim.Native.Nat.{◌+◌}
use Rattle.table_rows.specs.Words.{five_words}
use Rattle.message_apply.proofs.Ones.{added_one}
use Rattle.message_apply.proofs.add_one.Goals as goal

pub returns-then-is_held : goal.returns-then-is_held
returns-then-is_held c = let d = c.args in
    added_one five_words 32 d.port d.rows.now d.n d.p _ c.route_to-q.ensures _ c.is_held.ensures _ c.put_route.ensures _
    (sym (ap (λ (b : Bool). cond b d.n (d.n + 1)) c.if-is_held.true))

pub returns : goal.returns
returns c = let d = c.args in
    added_one five_words 32 d.port d.rows.now d.n d.p _ c.route_to-q.ensures _ c.is_held.ensures _ c.put_route-2.ensures _
    (sym (ap (λ (b : Bool). cond b d.n (d.n + 1)) c.if-is_held.false))
