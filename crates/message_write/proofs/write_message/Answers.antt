use mathlib.Core.Path.{◌∙◌}
use native.Mathlib.Omega.{arith}
use borrow.Author.Rules.{rules}
use Rattle.std.proofs.lemmas.Result.{err_from_is_err_and}
use Rattle.refusals.proofs.Numbers.{number_ne0}
use Rattle.std.proofs.Common.{ap, refl, Err}
use Rattle.refusals.specs.Refusals.{answered}
use Rattle.octets.proofs.Store.{number_fits}
use Rattle.message_write.proofs.WriteCall.{write_refused, write_valid, write_long, write_short, write_fits, write_all}
use Rattle.message_write.proofs.write_message.Goals as goal

pub returns-in_err-check_list : goal.returns-in_err-check_list
returns-in_err-check_list c =
    let a = c.args in
    let p = err_from_is_err_and c.from_residual.result c.from_residual.ensures.1 in
    rw (p.1, p.2) (write_refused 32 a.list.now a.message.now _ c.in_err-check_list.ensures (number_ne0 _))

pub prefixes_size-size-requires : goal.prefixes_size-size-requires
prefixes_size-size-requires c = let a = c.args in
    write_valid 32 a.list.now a.message.now _ c.in_ok-check_list.ensures refl (λ i. omega (arith, c.shared_slice_known-1.given i))

pub returns-then-size-gt-MOST_SIZE : goal.returns-then-size-gt-MOST_SIZE
returns-then-size-gt-MOST_SIZE c = let a = c.args in
    write_long 32 a.list.now a.message.now _ c.in_ok-check_list.ensures refl _ c.prefixes_size-size.ensures _ (ap (λ r. answered (Err r)) c.at.ensures) c.if-size-gt-MOST_SIZE.true

pub returns-then-message-size : goal.returns-then-message-size
returns-then-message-size c = let a = c.args in
    write_short 32 a.list.now a.message.now _ c.in_ok-check_list.ensures refl _ c.prefixes_size-size.ensures c.if-size-gt-MOST_SIZE.false _ (ap (λ r. answered (Err r)) c.at-then-message-size.ensures) c.if-message-size.true

pub put_prefixes-requires : goal.put_prefixes-requires
put_prefixes-requires c = let a = c.args in
    write_fits 32 a.list.now a.message.now _ c.in_ok-check_list.ensures refl _ c.prefixes_size-size.ensures c.if-size-gt-MOST_SIZE.false c.if-message-size.false _ c.put_head.ensures
    (λ j. omega (arith, c.shared_slice_known-1.given j))

pub returns : goal.returns
returns c = let a = c.args in
    write_all 32 a.list.now a.message.now _ c.in_ok-check_list.ensures refl _ c.prefixes_size-size.ensures c.if-size-gt-MOST_SIZE.false c.if-message-size.false _ c.put_head.ensures
    _ _ _ c.put_prefixes.ensures (c.put_number.ensures ∙ number_fits _ _ 2 _ (omega arith) (search rules)) refl
