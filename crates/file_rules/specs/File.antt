-- Defines the route file of w-bit addresses, which route stands where in its bytes, and the bytes of a list's routes: rules,
-- "The route file". Assumes nothing.
use Rattle.std.specs.Prelude.{◌≡◌, List, ◌∷◌, ◌++◌, ℕ, zero, suc, ◌+◌, ◌%◌, ◌^◌, ◌<◌, ◌≤◌, length, take, drop}
use Rattle.routes.specs.Routes.{route}
use Rattle.routes.specs.declared.Route.{Route}
use Rattle.octets.specs.Bytes.{number, digits}
use Rattle.octets.specs.Octets.{prefix_size, len_at, prefix_at, prefix_octets}
use Rattle.lists.specs.Numbered.{in_order}

-- "Byte 0 is the version, 1."
abbrev pub version : ℕ
version = 1

-- the version byte and the four of the size come before the routes
abbrev pub head_size : ℕ
head_size = 5

-- "Bytes 1..4 are the number of bytes after them, big-endian."
abbrev pub stated_size : List ℕ → ℕ
stated_size file = number (take 4 (drop 1 file))

-- the bytes of a route: "one byte prefix length in bits, the fewest bytes that hold that many bits, two bytes port"
abbrev pub size_for : ℕ → ℕ
size_for len = prefix_size len + 2

-- r is how many bytes a route takes, with the bound that callers want
pub record RouteBytes (len r : ℕ) : Type 0 where
  pub is : r ≡ size_for len
  pub small : r < 2 ^ 31

-- reading: the route whose first byte is at an offset

-- "two bytes port, big-endian"
abbrev pub port_from : List ℕ → ℕ → ℕ
port_from file from = number (take 2 (drop from file))

-- the prefix, its spare bits cleared as `prefix_at` says, and the port after it
unfoldable pub read_at : ℕ → List ℕ → ℕ → Route
read_at w file at =
    route (prefix_at w file at).value (prefix_at w file at).len (port_from file (at + prefix_size (len_at file at)))

-- "Then the routes in list order": the offset of route i's first byte
unfoldable pub place_of : List ℕ → ℕ → ℕ
place_of file zero = head_size
place_of file (suc i) = place_of file i + size_for (len_at file (place_of file i))

-- route i of a file
abbrev pub file_route : ℕ → List ℕ → ℕ → Route
file_route w file i = read_at w file (place_of file i)

-- writing

-- "one byte prefix length in bits, the fewest bytes that hold that many bits, two bytes port, big-endian"
abbrev pub route_bytes : ℕ → Route → List ℕ
route_bytes w r = prefix_octets w r.value r.len ++ digits 2 r.port

-- "Then the routes in list order"
abbrev pub body_of : ℕ → (ℕ → Route) → ℕ → List ℕ
body_of w R n = in_order (route_bytes w) R n

-- "Byte 0 is the version, 1. Bytes 1..4 are the number of bytes after them, big-endian."
abbrev pub head_of : ℕ → List ℕ
head_of size = version ∷ digits 4 size

-- the file of the first n routes
abbrev pub file_of : ℕ → (ℕ → Route) → ℕ → List ℕ
file_of w R n = head_of (length (body_of w R n)) ++ body_of w R n

-- a width that a file can hold: whole bytes, lengths that fit one byte, words that hold the two bytes of a port
pub record FileWidth (w : ℕ) : Type 0 where
  pub whole : w % 8 ≡ 0
  pub short : w < 2 ^ 8
  pub ported : 16 ≤ w
