use mathlib.Core.Path.{refl, sym, ap, ◌∙◌}
use Rattle.std.proofs.Common.{Err}
use Rattle.std.proofs.lemmas.Result.{err_from_is_err_and}
use Rattle.refusals.specs.Refusals.{updated}
use Rattle.refusals.proofs.Numbers.{number_ne0}
use Rattle.message_apply.proofs.Calls.{apply_refused, apply_wrong_port, apply_disorder, parts_within, applies, apply_done}
use borrow.Author.Rules.{rules}
use Rattle.message_apply.proofs.apply.Goals as goal

pub returns-in_err-parts : goal.returns-in_err-parts
returns-in_err-parts c = let d = c.args in
    let p = err_from_is_err_and c.from_residual.result c.from_residual.ensures.1 in
    rw (p.1, p.2) (apply_refused d.message.now d.port d.rows.now d.n _ c.in_err-parts.ensures (number_ne0 _) _ refl)

pub returns-then-not-is_port : goal.returns-then-not-is_port
returns-then-not-is_port c = let d = c.args in
    apply_wrong_port d.message.now d.port d.rows.now d.n _ c.in_ok-parts.ensures refl (sym c.is_port.ensures ∙ c.if-not-is_port.true) _ (ap (λ r. updated d.n (Err r)) c.at.ensures)

pub returns-then-not-is_good : goal.returns-then-not-is_good
returns-then-not-is_good c = let d = c.args in
    apply_disorder d.message.now d.port d.rows.now d.n _ c.in_ok-parts.ensures refl (sym c.is_port.ensures ∙ c.if-not-is_port.false) (sym c.is_good.ensures ∙ c.if-not-is_good.true)
    _ (ap (λ r. updated d.n (Err r)) c.at-then-not-is_good.ensures)

pub slice_bounds-apply_parts-end : goal.slice_bounds-apply_parts-end
slice_bounds-apply_parts-end c = let d = c.args in (parts_within d.message.now d.port d.rows.now d.n _ c.in_ok-parts.ensures refl (sym c.is_port.ensures ∙ c.if-not-is_port.false)).1

pub slice_bounds-apply_parts-count : goal.slice_bounds-apply_parts-count
slice_bounds-apply_parts-count c = let d = c.args in (parts_within d.message.now d.port d.rows.now d.n _ c.in_ok-parts.ensures refl (sym c.is_port.ensures ∙ c.if-not-is_port.false)).0

pub slice_bounds-apply_parts-start : goal.slice_bounds-apply_parts-start
slice_bounds-apply_parts-start c = slice_bounds-apply_parts-count c

pub slice_bounds-apply_parts-count-2 : goal.slice_bounds-apply_parts-count-2
slice_bounds-apply_parts-count-2 c = let d = c.args in (parts_within d.message.now d.port d.rows.now d.n _ c.in_ok-parts.ensures refl (sym c.is_port.ensures ∙ c.if-not-is_port.false)).2

pub slice_bounds-apply_parts-start-2 : goal.slice_bounds-apply_parts-start-2
slice_bounds-apply_parts-start-2 c = slice_bounds-apply_parts-count-2 c

pub apply_parts-requires : goal.apply_parts-requires
apply_parts-requires c = let d = c.args in
    (applies d.message.now d.port d.rows.now d.n _ c.in_ok-parts.ensures refl (sym c.is_port.ensures ∙ c.if-not-is_port.false) (sym c.is_good.ensures ∙ c.if-not-is_good.false), search rules)

pub returns : goal.returns
returns c = let d = c.args in
    apply_done d.message.now d.port d.rows.now d.n _ c.in_ok-parts.ensures refl (sym c.is_port.ensures ∙ c.if-not-is_port.false) (sym c.is_good.ensures ∙ c.if-not-is_good.false) _ c.apply_parts.ensures
