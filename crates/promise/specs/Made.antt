-- Defines a call that was made as its contract allows: RULES, "Promises". It speaks of the contract itself, as it is generated beside
-- the function. Assumes nothing.
use Rattle.std.specs.Prelude.{List, ℕ}
use contract.Lifetimes.{Lfts}
use borrow.Fn.Kinds.{ParamKind, ResultKind, Dens, Out, res_t, ended_of}
use denote.Triple.Clauses.{AtExit}

-- what it was handed, what it returned, and the lent memory at exit; n lifetimes, parameters ps and result r are the function's own
pub record Made (n : ℕ) (ps : List (ParamKind n)) (r : ResultKind n) (Post : Out n ps r) : Type 0 where
  pub κs : Lfts n
  pub args : Dens κs ps
  pub result : (res_t r κs).Denot
  pub exit : AtExit (ended_of n ps r) κs
  pub meets : Post κs args result exit
