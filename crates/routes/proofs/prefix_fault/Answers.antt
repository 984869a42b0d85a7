use mathlib.Core.Path.{sym, ◌∙◌}
use borrow.Author.Tests.{le-leb, lt-leb}
use Rattle.routes.proofs.prefix_fault.Goals as goal

pub returns-then-len-gt32 : goal.returns-then-len-gt32
returns-then-len-gt32 c = simp (lt-leb _ _ c.if-len-gt32.true)

pub returns-then-is_clear : goal.returns-then-is_clear
returns-then-is_clear c = simp (le-leb _ _ c.if-len-gt32.false, sym c.is_clear.ensures ∙ c.if-is_clear.true)

pub returns-else-is_clear : goal.returns-else-is_clear
returns-else-is_clear c = simp (le-leb _ _ c.if-len-gt32.false, sym c.is_clear.ensures ∙ c.if-is_clear.false)
