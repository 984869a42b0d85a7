use mathlib.Core.Path.{refl, sym, ap, subst, ◌∙◌}
use mathlib.Core.List.{List}
use Prim.Native.Nat.{ℕ}
use native.Mathlib.Omega.{arith}
use Rattle.std.proofs.lemmas.Result.{err_from_is_err_and}
use Rattle.refusals.proofs.Numbers.{number_ne0}
use Rattle.std.proofs.Common.{Err}
use Rattle.refusals.specs.Refusals.{checked}
use Rattle.promise.specs.Over.{outcome}
use Rattle.refusals.specs.declared.Answer.{Answer}
use Rattle.lists.specs.Numbered.{list_of}
use Rattle.runs_rules.specs.Runs.{run_at}
use Rattle.table_rows.specs.Words.{five_words}
use Rattle.count_make.specs.Adding.{added_runs, AllAddable}
use Rattle.count_make.proofs.Made.{made_short, made_refused, made_addable, made_done}
use Rattle.count_make.proofs.make.Goals as goal

pub returns-then-counts-lt-PORTS : goal.returns-then-counts-lt-PORTS
returns-then-counts-lt-PORTS c = let a = c.args in
    ap (λ (x : Answer). outcome x a.counts.now) (ap (λ r. checked (Err r)) c.at.ensures)
    ∙ made_short five_words 32 a.rows.now a.n a.counts.now c.if-counts-lt-PORTS.true

pub returns-in_err-count : goal.returns-in_err-count
returns-in_err-count c =
    let a = c.args in
    let p = err_from_is_err_and c.from_residual.result c.from_residual.ensures.1 in
    rw (p.1, p.2) (let ws = a.rows.now in
    made_refused five_words 32 ws a.n (omega arith) _ refl c.in_err-count.ensures a.counts.now c.if-counts-lt-PORTS.false (number_ne0 _))

pub add_runs-requires : goal.add_runs-requires
add_runs-requires c = let a = c.args in
    let ws = a.rows.now in
    subst (AllAddable _ _) (sym c.clear_counts.ensures)
    (made_addable five_words 32 ws a.n (omega arith) _ refl c.in_ok-count.ensures a.counts.now c.if-counts-lt-PORTS.false refl)

pub returns : goal.returns
returns c = let a = c.args in
    let ws = a.rows.now in
    made_done five_words 32 ws a.n (omega arith) _ refl c.in_ok-count.ensures a.counts.now c.if-counts-lt-PORTS.false refl
    (c.add_runs.ensures ∙ ap (λ (xs : List ℕ). added_runs xs (list_of (run_at c.table_runs.new.runs) c.in_ok-count.count 0)) c.clear_counts.ensures)
