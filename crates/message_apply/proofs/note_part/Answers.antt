use mathlib.Core.Path.{◌≡◌, ap, ◌∙◌}
use lib.ListN.{length}
use native.Mathlib.Omega.{arith}
use Rattle.table_rows.specs.Words.{five_words}
use Rattle.message_calls.specs.Named.{holds}
use Rattle.message_calls.specs.Steps.{folded, note_one}
use Rattle.message_apply.specs.Needs.{noted_as}
use Rattle.message_apply.proofs.Ones.{tally_le}
use Rattle.message_rules.specs.Left.{left}
use Rattle.message_rules.specs.Message.{prefixes_in}
use Rattle.message_rules.proofs.Walk.{length_prefixes}
use Rattle.message_apply.proofs.Folding.{fold_next, fold_done}
use Rattle.message_apply.proofs.note_part.Goals as goal

pub loop-p-init : goal.loop-p-init
loop-p-init c = let d = c.args in
    let e : left c.into_iter-p-iterator.result ≡ prefixes_in 32 d.part.now = ap left c.into_iter-p-iterator.ensures.into_iter_gives ∙ c.new-p-items.ensures in
    record { is = ap (folded (note_one five_words 32 (holds 32 (five_words.get d.rows.now) d.n) d.port) (noted_as d.seen.now d.start)) e; met = omega (arith, ap length e); hits = omega (arith, ap length e) }

pub note_one-t-requires : goal.note_one-t-requires
note_one-t-requires c = let some = ap length c.in-Some.ensures.steps in
    let most = length_prefixes 32 c.args.part.now (length c.args.part.now) 0 in
    record {
      met = omega (arith, some, most, c.loop-p.invariant.met, c.requires.0);
      hits = omega (arith, some, most, c.loop-p.invariant.hits, c.requires.1);
    }

pub loop-p-preserved : goal.loop-p-preserved
loop-p-preserved c = let d = c.args in
    let some = ap length c.in-Some.ensures.steps in
    let u = tally_le five_words 32 (holds 32 (five_words.get d.rows.now) d.n) d.port c.loop-p.seen _ c.loop-p.t c.note_one-t.result _ c.note_one-t.ensures in
    record {
      is = fold_next (note_one five_words 32 (holds 32 (five_words.get d.rows.now) d.n) d.port) (noted_as c.loop-p.seen c.loop-p.t) _ _ _ c.in-Some.ensures.steps _ c.note_one-t.ensures ∙ c.loop-p.invariant.is;
      met = omega (arith, u.0, some, c.loop-p.invariant.met);
      hits = omega (arith, u.1, some, c.loop-p.invariant.hits);
    }

pub returns : goal.returns
returns c = let d = c.args in
    fold_done (note_one five_words 32 (holds 32 (five_words.get d.rows.now) d.n) d.port) (noted_as c.loop-p.seen c.loop-p.t) _ c.in-None.ensures.steps.0 ∙ c.loop-p.invariant.is
