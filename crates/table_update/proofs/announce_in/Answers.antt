use mathlib.Core.Path.{ap, ◌∙◌}
use Rattle.std.proofs.Common.{Err}
use Rattle.promise.specs.Over.{outcome}
use Rattle.refusals.specs.Refusals.{updated}
use Rattle.refusals.specs.declared.Refusal.{Refusal}
use Rattle.table_update.proofs.Answers.{announce_held, announce_new, announce_full}
use Rattle.table_rows.specs.Words.{five_words}
use Rattle.table_update.proofs.announce_in.Goals as goal

pub returns-then-is_held : goal.returns-then-is_held
returns-then-is_held c = let d = c.args in
    announce_held five_words 32 d.rows.now d.n d.q _ c.is_held.ensures _ c.if-is_held.true c.put_route.ensures

pub returns-then-n-capacity_of : goal.returns-then-n-capacity_of
returns-then-n-capacity_of c = let d = c.args in
    announce_new five_words 32 d.rows.now d.n d.q _ c.is_held.ensures _ c.if-is_held.false _ c.capacity_of.ensures c.if-n-capacity_of.true c.put_route-then-n-capacity_of.ensures

pub returns : goal.returns
returns c = let d = c.args in
    ap (λ (r : Refusal). outcome (updated d.n (Err r)) d.rows.now) c.at.ensures
    ∙ announce_full five_words 32 d.rows.now d.n d.q _ c.is_held.ensures c.if-is_held.false _ c.capacity_of.ensures c.if-n-capacity_of.false
