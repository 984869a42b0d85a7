use mathlib.Core.Path.{refl, ap, ◌∙◌}
use mathlib.Core.List.{List}
use Prim.Native.Nat.{ℕ}
use Rattle.promise.specs.Over.{over}
use Rattle.table_rows.specs.Words.{five_words}
use Rattle.count_update.proofs.Counts.{made_good}
use Rattle.count_update.proofs.recount.Goals as goal

pub returns : goal.returns
returns c = let a = c.args in
    c.store_changed.ensures
    ∙ ap (λ (fresh : List ℕ). over fresh a.counts.now) (made_good five_words 32 a.rows.now a.n _ refl c.requires.good c.make.ensures)
