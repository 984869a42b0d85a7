use mathlib.Core.Path.{refl, sym, ap, ◌∙◌}
use Rattle.std.proofs.Common.{Err}
use Rattle.std.proofs.lemmas.Result.{err_from_is_err_and}
use Rattle.refusals.proofs.Numbers.{number_ne0}
use Rattle.table_rows.specs.Words.{five_words}
use Rattle.count_rules.specs.Counted.{passed}
use Rattle.count_rules.proofs.Counted.{first_fault_lem}
use Rattle.count_update.proofs.Counts.{first_short, first_disorder, first_stale, first_accepted, refused_ne0, fine_0}
use Rattle.count_update.proofs.checked_first.Goals as goal

pub returns-then-counts-lt-PORTS : goal.returns-then-counts-lt-PORTS
returns-then-counts-lt-PORTS c = let a = c.args in
    ap (λ r. passed a.n (Err r)) c.at.ensures ∙ first_short five_words 32 (passed a.n a.fault) a.rows.now a.n a.counts.now c.if-counts-lt-PORTS.true

pub returns-in_err-fault : goal.returns-in_err-fault
returns-in_err-fault c = let a = c.args in
    let p = err_from_is_err_and c.from_residual.result c.from_residual.ensures.1 in
    rw (p.1, p.2)
    (ap (passed a.n) (sym c.in_err-fault.was)
    ∙ sym (first_fault_lem five_words 32 (passed a.n a.fault) a.rows.now a.n a.counts.now c.if-counts-lt-PORTS.false (λ z. number_ne0 _ (sym (ap (λ f. (passed a.n f).number) c.in_err-fault.was) ∙ z))))

pub returns-then-is_err : goal.returns-then-is_err
returns-then-is_err c = let a = c.args in
    ap (λ r. passed a.n (Err r)) c.at-then-is_err.ensures
    ∙ first_disorder five_words 32 (passed a.n a.fault) a.rows.now a.n a.counts.now c.if-counts-lt-PORTS.false (ap (λ f. (passed a.n f).number) c.in_ok-fault.was)
    _ refl c.make.ensures (refused_ne0 c.make.result (sym c.is_err.ensures.value ∙ c.if-is_err.true))

pub returns-then-counts_differ : goal.returns-then-counts_differ
returns-then-counts_differ c = let a = c.args in
    ap (λ r. passed a.n (Err r)) c.at-then-counts_differ.ensures
    ∙ first_stale five_words 32 (passed a.n a.fault) a.rows.now a.n a.counts.now c.if-counts-lt-PORTS.false (ap (λ f. (passed a.n f).number) c.in_ok-fault.was)
    _ refl c.make.ensures (fine_0 c.make.result (sym c.is_err.ensures.value ∙ c.if-is_err.false))
    (sym c.counts_differ.ensures ∙ c.if-counts_differ.true)

pub returns : goal.returns
returns c = let a = c.args in
    first_accepted five_words 32 (passed a.n a.fault) a.rows.now a.n a.counts.now c.if-counts-lt-PORTS.false (ap (λ f. (passed a.n f).number) c.in_ok-fault.was)
    _ refl c.make.ensures (fine_0 c.make.result (sym c.is_err.ensures.value ∙ c.if-is_err.false))
    (sym c.counts_differ.ensures ∙ c.if-counts_differ.false)
