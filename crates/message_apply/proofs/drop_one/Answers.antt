use mathlib.Core.Path.{ap, ◌∙◌}
use Rattle.table_rules.specs.Announce.{is_held}
use Rattle.table_rows.specs.Words.{five_words}
use Rattle.routes.specs.declared.Route.{Route}
use Rattle.message_calls.specs.Named.{holds}
use Rattle.table_update.proofs.Answers.{held_some}
use Rattle.message_apply.proofs.Ones.{drop_skipped, drop_held, drop_missing}
use Rattle.message_apply.proofs.drop_one.Goals as goal

pub returns-then-is_held : goal.returns-then-is_held
returns-then-is_held c = let d = c.args in
    drop_skipped five_words 32 (holds 32 (five_words.get d.seen.now) d.met) d.rows.now d.n d.p _
    (c.is_held.ensures ∙ ap (λ (q : Route). is_held 32 (five_words.get d.seen.now) d.met q) c.route_to-q.ensures) c.if-is_held.true

pub overflow_sub-result : goal.overflow_sub-result
overflow_sub-result c = let d = c.args in
    held_some five_words 32 d.rows.now d.n c.route_to-q.result c.is_held-2.result c.is_held-2.ensures c.if-is_held-2.true

pub returns-then-is_held-2 : goal.returns-then-is_held-2
returns-then-is_held-2 c = let d = c.args in
    drop_held five_words 32 (holds 32 (five_words.get d.seen.now) d.met) d.rows.now d.n d.p _
    (c.is_held.ensures ∙ ap (λ (q : Route). is_held 32 (five_words.get d.seen.now) d.met q) c.route_to-q.ensures) c.if-is_held.false
    _ c.route_to-q.ensures _ c.is_held-2.ensures c.if-is_held-2.true _ c.take_route.ensures

pub returns : goal.returns
returns c = let d = c.args in
    drop_missing five_words 32 (holds 32 (five_words.get d.seen.now) d.met) d.rows.now d.n d.p _
    (c.is_held.ensures ∙ ap (λ (q : Route). is_held 32 (five_words.get d.seen.now) d.met q) c.route_to-q.ensures) c.if-is_held.false
    _ c.route_to-q.ensures _ c.is_held-2.ensures c.if-is_held-2.false
