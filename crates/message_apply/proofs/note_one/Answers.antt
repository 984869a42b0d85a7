use mathlib.Core.Path.{sym, ap, ◌∙◌}
use mathlib.Core.Bool.{Bool, cond}
use Prim.Native.Nat.{◌+◌}
use native.Mathlib.Nat.{add-zero}
use Rattle.table_rules.specs.Announce.{is_held}
use Rattle.table_rows.specs.Words.{five_words}
use Rattle.routes.specs.declared.Route.{Route}
use Rattle.message_calls.specs.Named.{holds}
use Rattle.message_apply.proofs.Ones.{note_again, note_new}
use Rattle.message_apply.proofs.note_one.Goals as goal

pub returns-then-is_held : goal.returns-then-is_held
returns-then-is_held c = let r = c.route_to-asked in
    let d = c.args in
    note_again five_words 32 (holds 32 (five_words.get d.rows.now) d.n) d.port d.seen.now d.t d.p _ r.ensures _ c.is_held.ensures c.if-is_held.true

pub returns-then-is_held-2 : goal.returns-then-is_held-2
returns-then-is_held-2 c = let d = c.args in
    note_new five_words 32 (holds 32 (five_words.get d.rows.now) d.n) d.port d.seen.now d.t d.p _ c.route_to-asked.ensures _ c.is_held.ensures c.if-is_held.false
    _ c.route_to.ensures _ c.put_route.ensures _
    (c.is_held-2.ensures ∙ ap (λ (q : Route). is_held 32 (five_words.get d.rows.now) d.n q) c.route_to-asked.ensures) _ (sym (ap (λ (x : Bool). d.t.hits + cond x 1 0) c.if-is_held-2.true))

pub returns : goal.returns
returns c = let d = c.args in
    note_new five_words 32 (holds 32 (five_words.get d.rows.now) d.n) d.port d.seen.now d.t d.p _ c.route_to-asked.ensures _ c.is_held.ensures c.if-is_held.false
    _ c.route_to.ensures _ c.put_route.ensures _
    (c.is_held-2.ensures ∙ ap (λ (q : Route). is_held 32 (five_words.get d.rows.now) d.n q) c.route_to-asked.ensures) _ (sym (ap (λ (x : Bool). d.t.hits + cond x 1 0) c.if-is_held-2.false ∙ add-zero d.t.hits))
