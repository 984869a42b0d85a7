-- Defines that a promise leaves no choice: RULES, "Promises". It speaks of the contract itself, as it is generated beside the
-- function. Assumes nothing.
use Rattle.std.specs.Prelude.{◌≡◌, List, ℕ}
use contract.Lifetimes.{Lfts}
use borrow.Fn.Kinds.{ParamKind, ResultKind, Dens, Out, res_t, ended_of}
use denote.Triple.Clauses.{AtExit}

-- For every argument, two outcomes that the promise allows look the same: `seen` is the result with the lent memory at exit.
-- n lifetimes, parameters ps and result r are the function's own.
abbrev pub Determined :
    (n : ℕ) (ps : List (ParamKind n)) (r : ResultKind n) → Out n ps r → {X : Type 0}
    → ((κs : Lfts n) → (res_t r κs).Denot → AtExit (ended_of n ps r) κs → X) → Type 0
Determined n ps r Post seen =
    (κs : Lfts n) (a : Dens κs ps) (x y : (res_t r κs).Denot) (s t : AtExit (ended_of n ps r) κs)
    → Post κs a x s → Post κs a y t → seen κs x s ≡ seen κs y t
