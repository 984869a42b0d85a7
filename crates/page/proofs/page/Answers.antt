use mathlib.Core.Path.{refl, sym, ap, ◌∙◌}
use Rattle.refusals.specs.Refusals.{number_of, refused}
use Rattle.page.specs.Page.{refused_text}
use native.Mathlib.Omega.{arith}
use lib.Seq.{length-take-le}
use Rattle.page.proofs.Answers.{page_is, page_none, page_long, page_refused, count_le, page_shown, page_listed}
use Rattle.refusals.proofs.Numbers.{number_ne0}
use Rattle.page.proofs.page.Goals as goal

pub returns-then-out-lt-PAGE_ROOM : goal.returns-then-out-lt-PAGE_ROOM
returns-then-out-lt-PAGE_ROOM c = page_none 32 _ _ c.if-out-lt-PAGE_ROOM.true

pub returns-then-file-gt-MOST_BYTES : goal.returns-then-file-gt-MOST_BYTES
returns-then-file-gt-MOST_BYTES c = page_is 32 c.args.file.now c.if-out-lt-PAGE_ROOM.false c.put_refusal.ensures (ap (λ r. refused_text (refused (number_of r.fault) r.place)) c.at.ensures ∙ page_long 32 c.args.file.now c.if-file-gt-MOST_BYTES.true)

pub returns-in-Err : goal.returns-in-Err
returns-in-Err c = page_is 32 c.args.file.now c.if-out-lt-PAGE_ROOM.false c.put_refusal-in-Err.ensures (page_refused 32 c.args.file.now _ c.if-file-gt-MOST_BYTES.false refl c.in-Err.ensures (number_ne0 _))

-- no more routes were read than there is room for
pub slice_bounds-list-end : goal.slice_bounds-list-end
slice_bounds-list-end c = omega (arith, count_le 32 c.args.file.now _ c.if-file-gt-MOST_BYTES.false refl c.in-Ok.ensures refl)

pub slice_bounds-put_runs-end : goal.slice_bounds-put_runs-end
slice_bounds-put_runs-end c = sym (length-take-le _ _ (omega (arith, count_le 32 c.args.file.now _ c.if-file-gt-MOST_BYTES.false refl c.in-Ok.ensures refl)))

pub put_runs-requires : goal.put_runs-requires
put_runs-requires c = page_shown 32 c.args.file.now _ c.if-file-gt-MOST_BYTES.false refl c.in-Ok.ensures refl (record { whole = refl; short = omega arith; ported = omega arith }) (λ i. omega (arith, c.shared_slice_known-1.given i)) c.if-out-lt-PAGE_ROOM.false

pub returns-in-Ok : goal.returns-in-Ok
returns-in-Ok c = page_is 32 c.args.file.now c.if-out-lt-PAGE_ROOM.false c.put_runs.ensures (page_listed 32 c.args.file.now _ c.if-file-gt-MOST_BYTES.false refl c.in-Ok.ensures refl)
