use mathlib.Core.Path.{◌≡◌, ap, ◌∙◌}
use lib.ListN.{length}
use native.Mathlib.Omega.{arith}
use Rattle.table_rows.specs.Words.{five_words}
use Rattle.message_calls.specs.Steps.{folded, add_one}
use Rattle.message_apply.specs.Needs.{table_as}
use Rattle.message_apply.proofs.Ones.{count_le}
use Rattle.message_rules.specs.Left.{left}
use Rattle.message_rules.specs.Message.{prefixes_in}
use Rattle.message_rules.proofs.Walk.{length_prefixes}
use Rattle.message_apply.proofs.Folding.{fold_next, fold_done}
use Rattle.message_apply.proofs.add_part.Goals as goal

pub loop-p-init : goal.loop-p-init
loop-p-init c = let d = c.args in
    let e : left c.into_iter-p-iterator.result ≡ prefixes_in 32 d.part.now = ap left c.into_iter-p-iterator.ensures.into_iter_gives ∙ c.new-p-items.ensures in
    record { is = ap (folded (add_one five_words 32 d.port) (table_as d.rows.now d.count)) e; few = omega (arith, ap length e) }

pub add_one-n-requires : goal.add_one-n-requires
add_one-n-requires c = omega (arith, c.requires, length_prefixes 32 c.args.part.now (length c.args.part.now) 0, c.loop-p.invariant.few)

pub loop-p-preserved : goal.loop-p-preserved
loop-p-preserved c = let d = c.args in record {
  is = fold_next (add_one five_words 32 d.port) (table_as c.loop-p.rows c.loop-p.n) _ _ _ c.in-Some.ensures.steps _ c.add_one-n.ensures ∙ c.loop-p.invariant.is;
  few = omega (arith, count_le five_words 32 d.port c.loop-p.rows _ c.loop-p.n c.add_one-n.result _ c.add_one-n.ensures, c.loop-p.invariant.few, ap length c.in-Some.ensures.steps);
}

pub returns : goal.returns
returns c = let d = c.args in
    fold_done (add_one five_words 32 d.port) (table_as c.loop-p.rows c.loop-p.n) _ c.in-None.ensures.steps.0 ∙ c.loop-p.invariant.is
