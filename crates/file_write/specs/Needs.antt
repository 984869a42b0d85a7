-- Defines what the parts of the writer give, with the bounds that their callers want, and what they ask. Assumes nothing.
use Rattle.std.specs.Prelude.{◌≡◌, List, ℕ, ◌+◌, ◌*◌, ◌≤◌, length}
use Rattle.routes.specs.Bounds.{most_routes}
use Rattle.routes.specs.Routes.{route_at, route_count}
use Rattle.routes.specs.Check.{list_check}
use Rattle.file_rules.specs.File.{head_size, size_for, body_of}

-- r is the size of the body of a list's file
pub record BodySize (w : ℕ) (list : List ℕ) (r : ℕ) : Type 0 where
  pub is : r ≡ length (body_of w (route_at list) (route_count list))
  pub small : r ≤ most_routes * size_for w

-- a list that the check accepts, and room for its body
pub record FitsFile (w : ℕ) (list file : List ℕ) : Type 0 where
  pub valid : (list_check w list).number ≡ 0
  pub room : head_size + length (body_of w (route_at list) (route_count list)) ≤ length file
