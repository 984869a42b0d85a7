-- Defines the routes of a list, and when a route and a list are valid: RULES, "The route list".
-- Routes are numbered, so that no list is taken apart: R i is route i. Assumes nothing.
use Rattle.std.specs.Prelude.{◌≡◌, true, cond, List, [], ◌∷◌, ℕ, ◌+◌, ◌*◌, ◌/◌, ◌≤◌, ◌<◌, ◌%◌, ◌^◌, ltb, length, get_or}
use Rattle.promise.specs.Over.{store_three}
use Rattle.bits.specs.Bits.{prefix_bits}
use Rattle.bits.specs.Prefix.{Valid, precedes}
use Rattle.trie.specs.Routes.{Route as BitRoute}
use Rattle.routes.specs.Bounds.{most_routes, last_port}
use Rattle.routes.specs.declared.Route.{Route}
use Rattle.lists.specs.Numbered.{in_order}
use Rattle.lists.specs.Flat.{flat}

abbrev pub route : ℕ → ℕ → ℕ → Route
route value len port = record { value = value; len = len; port = port }

-- no route: "Port 0 means no route and is never a route's port."
abbrev pub no_route : Route
no_route = route 0 0 0

-- "three 32-bit words a route"
abbrev pub route_size : ℕ
route_size = 3

-- "value, length, port": this and the next two say where route i lies; words past the end count as 0
abbrev pub route_at : List ℕ → ℕ → Route
route_at words i = route (get_or words (i * route_size) 0) (get_or words (i * route_size + 1) 0) (get_or words (i * route_size + 2) 0)

-- how many whole routes there are
abbrev pub route_count : List ℕ → ℕ
route_count words = length words / route_size

-- the words with route i made r; past the whole routes nothing is stored
unfoldable pub store_route : List ℕ → ℕ → Route → List ℕ
store_route words i r =
    cond (ltb i (route_count words)) (store_three words (i * route_size) r.value r.len r.port) words

-- the words of a route
abbrev pub route_words : Route → List ℕ
route_words r = r.value ∷ r.len ∷ r.port ∷ []

-- "A route is a prefix and a port, 1..4094."
pub record ValidRoute (w : ℕ) (r : Route) : Type 0 where
  pub prefix : Valid w r.value r.len
  pub some : 0 < r.port
  pub most : r.port ≤ last_port

-- "strictly ascending by value, then by length. At most 4,096 routes. The empty list is valid."
pub record ValidList (w : ℕ) (R : ℕ → Route) (n : ℕ) : Type 0 where
  pub few : n ≤ most_routes
  pub each : (i : ℕ) → i < n → ValidRoute w (R i)
  pub rises : (i : ℕ) → i + 1 < n → precedes (R i).value (R i).len (R (i + 1)).value (R (i + 1)).len ≡ true

-- a route by the bits of its prefix
abbrev pub bit_route : ℕ → Route → BitRoute
bit_route w r = record { prefix = prefix_bits w r.value r.len; port = r.port }

-- the words of routes, one after the other
abbrev pub words_of : List Route → List ℕ
words_of rs = flat route_words rs

-- every word of the list is a word of w bits
abbrev pub Words : ℕ → List ℕ → Type 0
Words w words = (i : ℕ) → get_or words i 0 < 2 ^ w

-- the words are three a route, and no more routes than may be
pub record Sized (words : List ℕ) : Type 0 where
  pub whole : length words % 3 ≡ 0
  pub few : route_count words ≤ most_routes

-- the words of the first n routes
abbrev pub list_of_routes : (ℕ → Route) → ℕ → List ℕ
list_of_routes R n = in_order route_words R n
