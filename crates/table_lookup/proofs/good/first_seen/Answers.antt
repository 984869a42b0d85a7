use mathlib.Core.Path.{sym, ◌∙◌}
use borrow.Author.Tests.{eq-eqb, ne_eqb}
use Rattle.table_lookup.proofs.good.first_seen.Goals as goal

pub returns-then-b-eq0 : goal.returns-then-b-eq0
returns-then-b-eq0 c = rw (eq-eqb _ 0 c.if-b-eq0.true)

pub returns-then-a-eq0 : goal.returns-then-a-eq0
returns-then-a-eq0 c = rw (ne_eqb _ 0 c.if-b-eq0.false, eq-eqb _ 0 c.if-a-eq0.true)

pub returns-then-is_ahead : goal.returns-then-is_ahead
returns-then-is_ahead c = rw (ne_eqb _ 0 c.if-b-eq0.false, ne_eqb _ 0 c.if-a-eq0.false, sym c.is_ahead.ensures ∙ c.if-is_ahead.true)

pub returns-else-is_ahead : goal.returns-else-is_ahead
returns-else-is_ahead c = rw (ne_eqb _ 0 c.if-b-eq0.false, ne_eqb _ 0 c.if-a-eq0.false, sym c.is_ahead.ensures ∙ c.if-is_ahead.false)
