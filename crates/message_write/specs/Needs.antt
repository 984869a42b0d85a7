-- Defines what the parts of the writer give, with the bounds that their callers want, and what they ask. Assumes nothing.
use Rattle.std.specs.Prelude.{◌≡◌, List, ℕ, ◌+◌, ◌*◌, ◌≤◌, length}
use Rattle.routes.specs.Bounds.{most_routes}
use Rattle.routes.specs.Routes.{route_at, route_count, ValidList}
use Rattle.octets.specs.Octets.{prefix_size}
use Rattle.message_rules.specs.Message.{withdrawn_at}
use Rattle.message_rules.specs.Written.{prefixes_of}

-- r is the size of a list's prefixes
pub record PrefixesSize (w : ℕ) (list : List ℕ) (r : ℕ) : Type 0 where
  pub is : r ≡ length (prefixes_of w (route_at list) (route_count list))
  pub small : r ≤ most_routes * prefix_size w

-- a valid list, and room for its prefixes after the head
pub record FitsMessage (w : ℕ) (list message : List ℕ) : Type 0 where
  pub valid : ValidList w (route_at list) (route_count list)
  pub room : withdrawn_at + length (prefixes_of w (route_at list) (route_count list)) ≤ length message
