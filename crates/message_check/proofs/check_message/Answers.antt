use mathlib.Core.Path.{refl}
use native.Mathlib.Omega.{arith}
use Rattle.std.proofs.lemmas.Result.{err_from_is_err_and}
use Rattle.refusals.proofs.Numbers.{number_ne0}
use Rattle.message_check.proofs.Whole.{head_refused, end_within, withdrawn_room, withdrawn_refused, at_within, announced_room, announced_refused, message_done}
use Rattle.message_check.proofs.check_message.Goals as goal

pub returns-in_err-head_check : goal.returns-in_err-head_check
returns-in_err-head_check c =
    let p = err_from_is_err_and c.from_residual.result c.from_residual.ensures.1 in
    rw (p.1, p.2) (head_refused 32 c.args.message.now _ c.in_err-head_check.ensures (number_ne0 _))

pub slice_bounds-part_check-end : goal.slice_bounds-part_check-end
slice_bounds-part_check-end c = omega (arith, end_within 32 c.args.message.now _ c.in_ok-head_check.ensures refl _ c.field_at-end.ensures.is)

pub part_check-requires : goal.part_check-requires
part_check-requires c = withdrawn_room 32 c.args.message.now _ c.in_ok-head_check.ensures refl _ c.field_at-end.ensures.is

pub returns-in_err-part_check : goal.returns-in_err-part_check
returns-in_err-part_check c =
    let p = err_from_is_err_and c.from_residual-in_err-part_check.result c.from_residual-in_err-part_check.ensures.1 in
    rw (p.1, p.2)
    (withdrawn_refused 32 c.args.message.now _ c.in_ok-head_check.ensures refl _ c.field_at-end.ensures.is _
    c.in_err-part_check.ensures (number_ne0 _))

pub slice_bounds-part_check-count-2 : goal.slice_bounds-part_check-count-2
slice_bounds-part_check-count-2 c = at_within 32 c.args.message.now _ c.in_ok-head_check.ensures refl _ c.field_at-end.ensures.is _
    c.in_ok-part_check.ensures refl _ c.field_at.ensures.is

pub slice_bounds-part_check-start-2 : goal.slice_bounds-part_check-start-2
slice_bounds-part_check-start-2 c = slice_bounds-part_check-count-2 c

pub part_check-requires-2 : goal.part_check-requires-2
part_check-requires-2 c = announced_room 32 c.args.message.now _ c.in_ok-head_check.ensures refl _ c.field_at-end.ensures.is _
    c.in_ok-part_check.ensures refl _ c.field_at.ensures.is

pub returns-in_err-part_check-2 : goal.returns-in_err-part_check-2
returns-in_err-part_check-2 c =
    let p = err_from_is_err_and c.from_residual-in_err-part_check-2.result c.from_residual-in_err-part_check-2.ensures.1 in
    rw (p.1, p.2)
    (announced_refused 32 c.args.message.now _ c.in_ok-head_check.ensures refl _ c.field_at-end.ensures.is _
    c.in_ok-part_check.ensures refl _ c.field_at.ensures.is _ c.in_err-part_check-2.ensures (number_ne0 _))

pub returns : goal.returns
returns c = message_done 32 c.args.message.now _ c.in_ok-head_check.ensures refl _ c.field_at-end.ensures.is _
    c.in_ok-part_check.ensures refl _ c.field_at.ensures.is _ c.in_ok-part_check-2.ensures refl
