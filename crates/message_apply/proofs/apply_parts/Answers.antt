use mathlib.Core.Path.{refl, ap, ◌∙◌}
use Rattle.std.proofs.Common.{Err}
use Rattle.refusals.specs.Refusals.{updated}
use native.Mathlib.Omega.{arith}
use Rattle.message_apply.proofs.Counted.{few, announced_small, hits_small, too_many, left_small, applied}
use Rattle.message_apply.proofs.apply_parts.Goals as goal

pub note_part-named-requires : goal.note_part-named-requires
note_part-named-requires c = let d = c.args in
    let a = c.note_part-announced in
    let s = announced_small d.port d.gone.now d.come.now d.rows.now d.n c.requires.0 (λ i. omega (arith, c.shared_slice_known-1.given i)) (λ i. omega (arith, c.shared_slice_known-2-1.given i)) _ c.requires.1 _ a.result a.ensures in
    (omega (arith, s.0, c.requires.0.few), omega (arith, s.1, c.requires.0.few))

pub overflow_add-capacity_of : goal.overflow_add-capacity_of
overflow_add-capacity_of c = let d = c.args in
    let a = c.note_part-announced in
    let b = c.note_part-named in
    omega (arith, c.capacity_of.ensures, hits_small d.port d.gone.now d.come.now d.rows.now d.n c.requires.0 (λ i. omega (arith, c.shared_slice_known-1.given i)) (λ i. omega (arith, c.shared_slice_known-2-1.given i)) _ c.requires.1 _ a.result a.ensures _ b.result b.ensures)

pub overflow_add-n : goal.overflow_add-n
overflow_add-n c = let d = c.args in
    let a = c.note_part-announced in
    omega (arith, few d.port d.gone.now d.come.now d.rows.now d.n c.requires.0 (λ i. omega (arith, c.shared_slice_known-1.given i)) (λ i. omega (arith, c.shared_slice_known-2-1.given i)), (announced_small d.port d.gone.now d.come.now d.rows.now d.n c.requires.0 (λ i. omega (arith, c.shared_slice_known-1.given i)) (λ i. omega (arith, c.shared_slice_known-2-1.given i)) _ c.requires.1 _ a.result a.ensures).0, c.requires.0.few)

pub returns-then-capacity_of-named : goal.returns-then-capacity_of-named
returns-then-capacity_of-named c = let d = c.args in
    let a = c.note_part-announced in
    let b = c.note_part-named in
    too_many d.port d.gone.now d.come.now d.rows.now d.n c.requires.0 (λ i. omega (arith, c.shared_slice_known-1.given i)) (λ i. omega (arith, c.shared_slice_known-2-1.given i)) _ c.requires.1 _ a.result a.ensures _ b.result b.ensures _ c.capacity_of.ensures c.if-capacity_of-named.true _ (ap (λ r. updated d.n (Err r)) c.at.ensures)

pub add_part-requires : goal.add_part-requires
add_part-requires c = let d = c.args in
    let a = c.note_part-announced in
    let b = c.note_part-named in
    let m = c.note_part-kept in
    let l = c.drop_part-left in
    omega (
      arith,
      c.requires.0.few,
      left_small d.port d.gone.now d.come.now d.rows.now d.n c.requires.0 (λ i. omega (arith, c.shared_slice_known-1.given i)) (λ i. omega (arith, c.shared_slice_known-2-1.given i)) _ c.requires.1 _ a.result a.ensures _ b.result b.ensures _ c.capacity_of.ensures c.if-capacity_of-named.false
          _ (omega (arith, c.requires.1, a.auto.seen, b.auto.seen)) _ m.result m.ensures _ l.result l.ensures,
    )

pub shape_of-seen : goal.shape_of-seen
shape_of-seen c = c.note_part-kept.auto.seen ∙ c.note_part-named.auto.seen ∙ c.note_part-announced.auto.seen

pub returns : goal.returns
returns c = let d = c.args in
    let a = c.note_part-announced in
    let b = c.note_part-named in
    let m = c.note_part-kept in
    let l = c.drop_part-left in
    let r = c.add_part in
    applied d.port d.gone.now d.come.now d.rows.now d.n c.requires.0 (λ i. omega (arith, c.shared_slice_known-1.given i)) (λ i. omega (arith, c.shared_slice_known-2-1.given i)) _ c.requires.1 _ a.result a.ensures _ b.result b.ensures _ c.capacity_of.ensures c.if-capacity_of-named.false
    _ (omega (arith, c.requires.1, a.auto.seen, b.auto.seen)) _ m.result m.ensures _ l.result l.ensures _ r.result r.ensures _ refl
