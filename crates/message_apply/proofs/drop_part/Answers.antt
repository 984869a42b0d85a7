use mathlib.Core.Path.{◌≡◌, ap, ◌∙◌}
use Rattle.table_rows.specs.Words.{five_words}
use Rattle.message_calls.specs.Named.{holds}
use Rattle.message_calls.specs.Steps.{folded, drop_one}
use Rattle.message_apply.specs.Needs.{table_as}
use Rattle.message_rules.specs.Left.{left}
use Rattle.message_rules.specs.Message.{prefixes_in}
use Rattle.message_apply.proofs.Folding.{fold_next, fold_done}
use Rattle.message_apply.proofs.drop_part.Goals as goal

pub loop-p-init : goal.loop-p-init
loop-p-init c = let d = c.args in
    let e : left c.into_iter-p-iterator.result ≡ prefixes_in 32 d.part.now = ap left c.into_iter-p-iterator.ensures.into_iter_gives ∙ c.new-p-items.ensures in
    ap (folded (drop_one five_words 32 (holds 32 (five_words.get d.seen.now) d.met)) (table_as d.rows.now d.count)) e

pub loop-p-preserved : goal.loop-p-preserved
loop-p-preserved c = let d = c.args in
    fold_next (drop_one five_words 32 (holds 32 (five_words.get d.seen.now) d.met)) (table_as c.loop-p.rows c.loop-p.n) _ _ _ c.in-Some.ensures.steps _ c.drop_one-n.ensures ∙ c.loop-p.invariant

pub returns : goal.returns
returns c = let d = c.args in
    fold_done (drop_one five_words 32 (holds 32 (five_words.get d.seen.now) d.met)) (table_as c.loop-p.rows c.loop-p.n) _ c.in-None.ensures.steps.0 ∙ c.loop-p.invariant
