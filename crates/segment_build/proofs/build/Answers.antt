use mathlib.Core.Path.{refl, ap, ◌∙◌}
use native.Mathlib.Omega.{arith}
use Rattle.std.proofs.Common.{Err}
use Rattle.std.proofs.lemmas.Result.{err_from_is_err_and}
use Rattle.refusals.proofs.Numbers.{number_ne0}
use Rattle.segment_rules.specs.Build.{stores, left, built_of}
use Rattle.segment_build.proofs.Writing.{build_refused, runs_ready, build_is_into, build_no_first}
use Rattle.segment_build.proofs.build.Goals as goal

pub returns-in_err-list_runs : goal.returns-in_err-list_runs
returns-in_err-list_runs c = let a = c.args in
    let p = err_from_is_err_and c.from_residual.result c.from_residual.ensures.1 in
    rw (p.1, p.2) (build_refused a.list.now _ _ _ (λ i. omega (arith, c.type_inv.list i)) refl c.in_err-list_runs.ensures (stores a.first.now a.packed.now a.plain.now a.last.now) (number_ne0 _))

pub returns-then-first-lt-FIRST_SIZE : goal.returns-then-first-lt-FIRST_SIZE
returns-then-first-lt-FIRST_SIZE c = let a = c.args in
    ap (λ r. left (built_of (Err r)) (stores a.first.now a.packed.now a.plain.now a.last.now)) c.at.ensures
    ∙ build_no_first a.list.now _ _ _ (λ i. omega (arith, c.type_inv.list i)) refl c.in_ok-list_runs.ensures (stores a.first.now a.packed.now a.plain.now a.last.now) refl c.if-first-lt-FIRST_SIZE.true

pub build_valid-requires : goal.build_valid-requires
build_valid-requires c = let a = c.args in
    (runs_ready a.list.now _ _ _ (λ i. omega (arith, c.type_inv.list i)) refl c.in_ok-list_runs.ensures (stores a.first.now a.packed.now a.plain.now a.last.now) refl, c.if-first-lt-FIRST_SIZE.false)

pub returns : goal.returns
returns c = let a = c.args in
    build_is_into a.list.now _ _ _ (λ i. omega (arith, c.type_inv.list i)) refl c.in_ok-list_runs.ensures (stores a.first.now a.packed.now a.plain.now a.last.now) refl c.build_valid.ensures
