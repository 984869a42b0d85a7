use mathlib.Core.Path.{sym, ap, ◌∙◌}
use mathlib.Core.Bool.{Bool}
use borrow.Author.Tests.{eq-eqb, ne_eqb, lt-ltb, le-ltb}
use Rattle.bits.specs.Prefix.{ahead_of}
use Rattle.prefix.specs.declared.Prefix.{Prefix}
use Rattle.table_rules.specs.Check.{seen}
use Rattle.table_lookup.proofs.good.seen_over.Goals as goal

pub returns-then-first-eq0 : goal.returns-then-first-eq0
returns-then-first-eq0 c = rw (eq-eqb _ 0 c.if-first-eq0.true) (ap (λ (p : Prefix). seen c.args.rows p.value p.len) c.prefix_of-own.ensures)

pub returns-then-is_ahead : goal.returns-then-is_ahead
returns-then-is_ahead c = let a = c.args in
    let ahead : Prefix → Bool = λ p. ahead_of p.value p.len a.first.best.value a.first.best.len in
    rw (ne_eqb _ 0 c.if-first-eq0.false, lt-ltb _ _ c.if-depth-x.true, sym (c.is_ahead.ensures ∙ ap ahead c.prefix_of-own.ensures) ∙ c.if-is_ahead.true)
    (ap (λ (p : Prefix). seen a.rows p.value p.len) c.prefix_of-own.ensures)

pub returns-then-depth-x : goal.returns-then-depth-x
returns-then-depth-x c = let a = c.args in
    let ahead : Prefix → Bool = λ p. ahead_of p.value p.len a.first.best.value a.first.best.len in
    rw (ne_eqb _ 0 c.if-first-eq0.false, lt-ltb _ _ c.if-depth-x.true, sym (c.is_ahead.ensures ∙ ap ahead c.prefix_of-own.ensures) ∙ c.if-is_ahead.false)

pub returns : goal.returns
returns c = rw (ne_eqb _ 0 c.if-first-eq0.false, le-ltb _ _ c.if-depth-x.false)
