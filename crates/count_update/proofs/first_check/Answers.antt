use mathlib.Core.Path.{sym, ap, ◌∙◌}
use Rattle.refusals.specs.Refusals.{keeping_at}
use Rattle.refusals.specs.declared.Answer.{Answer}
use Rattle.table_rows.specs.Words.{five_words}
use Rattle.count_rules.proofs.Counted.{first_fault_lem}
use Rattle.count_update.proofs.Counts.{first_any, passed_told}
use Rattle.count_update.proofs.first_check.Goals as goal

pub returns-then-counts-ge-PORTS : goal.returns-then-counts-ge-PORTS
returns-then-counts-ge-PORTS c = let a = c.args in
    sym (first_fault_lem five_words 32 a.fault a.rows.now a.n a.counts.now c.if-counts-ge-PORTS.true c.if-fault-ne0.true)

pub returns : goal.returns
returns c = let a = c.args in
    ap (λ (r : Answer). keeping_at r.number r.place a.n) c.from.ensures
    ∙ passed_told a.n c.checked_first.result
    ∙ c.checked_first.ensures
    ∙ first_any five_words 32 a.fault a.rows.now a.n a.counts.now c.else-fault-ne0.either
