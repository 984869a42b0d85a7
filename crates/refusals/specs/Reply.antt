-- Defines what C gets for an answer of the library: RULES, "Calls" and "Refusals". The number is returned; the place and the results
-- are stored. Assumes nothing.
use Rattle.std.specs.Prelude.{List, [], ◌∷◌, ℕ}
use Rattle.promise.specs.Over.{Outcome, outcome}
use Rattle.refusals.specs.declared.Answer.{Answer}
use Rattle.refusals.specs.declared.found.Found.{Found}

-- the number returned, and the words stored in `answer`
pub record Reply : Type 0 where
  pub number : ℕ
  pub answer : List ℕ

abbrev pub reply : ℕ → List ℕ → Reply
reply number answer = record { number = number; answer = answer }

-- the place alone
abbrev pub placed : Answer → Reply
placed x = reply x.number (x.place ∷ [])

-- the place, and the one result: routes, bytes, a port, n or runs
abbrev pub counted : Answer → Reply
counted x = reply x.number (x.place ∷ x.count ∷ [])

-- place 0, the port, and the rows or nodes read
abbrev pub looked : Found → Reply
looked x = reply x.number (0 ∷ x.port ∷ x.reads ∷ [])

-- a call that writes one lent memory leaves it as the library does
abbrev pub replied : Outcome Answer → Outcome Reply
replied x = outcome (counted x.answer) x.lent
