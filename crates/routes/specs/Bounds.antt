-- Defines the bounds of lists and ports: RULES, "Addresses and prefixes" and "The route list". Assumes nothing.
use Rattle.std.specs.Prelude.{ℕ}

-- "At most 4,096 routes."
abbrev pub most_routes : ℕ
most_routes = 4096

-- "A route is a prefix and a port, 1..4094."
abbrev pub last_port : ℕ
last_port = 4094
