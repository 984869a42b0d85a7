-- A step for each prefix that an iterator gives: one more, and the end. Assumes nothing.
use mathlib.Core.Path.{◌≡◌, sym, ap, ◌∙◌}
use mathlib.Core.List.{List, [], ◌∷◌}
use Rattle.prefix.specs.declared.Prefix.{Prefix}
use Rattle.message_calls.specs.Steps.{folded}

module _ {X : Type 0} (step : X → Prefix → X) (s : X) (ps : List Prefix) where
  pub fold_next : (p : Prefix) (rest : List Prefix) → ps ≡ p ∷ rest → (s' : X) → s' ≡ step s p → folded step s' rest ≡ folded step s ps
  unfolding folded
  fold_next p rest e s' s-is = ap (λ (x : X). folded step x rest) s-is ∙ sym (ap (folded step s) e)

  pub fold_done : ps ≡ [] → s ≡ folded step s ps
  unfolding folded
  fold_done e = sym (ap (folded step s) e)
