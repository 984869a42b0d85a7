-- Defines when a table's routes were written into a list: RULES, "Build and save". Assumes nothing.
use Rattle.std.specs.Prelude.{◌≡◌, List, ℕ, ◌+◌, ◌*◌, length}
use Rattle.std.proofs.lemmas.List.Edits.{sets}
use Rattle.routes.specs.Routes.{words_of}
use Rattle.routes.specs.declared.Route.{Route}

-- the routes rs were written from route `at` on, up to `next`
pub record WroteRoutes (rs : List Route) (at next : ℕ) (lent left : List ℕ) : Type 0 where
  pub end : next ≡ at + length rs
  pub words : left ≡ sets lent (at * 3) (words_of rs)
