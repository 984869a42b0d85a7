-- Defines the plain scan of a route list: RULES, "The plain scan". Assumes nothing.
use Rattle.std.specs.Prelude.{Bool, cond, List, ℕ, zero, suc}
use Rattle.bits.specs.Prefix.{matches}
use Rattle.trie.specs.Scan.{plain_scan}
use Rattle.refusals.specs.Refusals.{accepted, and_then}
use Rattle.routes.specs.Routes.{route_at, route_count}
use Rattle.lists.specs.Numbered.{list_of}
use Rattle.routes.specs.Check.{list_check}
use Rattle.routes.specs.declared.Route.{Route}
use Rattle.refusals.specs.declared.Answer.{Answer}

-- the route's prefix matches the address
abbrev pub route_matches : ℕ → ℕ → Route → Bool
route_matches w a r = matches w r.value r.len a

-- "of the routes that match, the port of the longest; 0 if none matches": of the first n routes
abbrev pub scan_of : ℕ → (ℕ → Route) → ℕ → ℕ → ℕ
scan_of w R n a = plain_scan (route_matches w a) (λ r. r.len) (λ r. r.port) (list_of R n 0)

-- the port of the last of the first k routes that matches; 0 if none does. On a valid list it is the longest
unfoldable pub last_match : ℕ → (ℕ → Route) → ℕ → ℕ → ℕ
last_match w R zero a = 0
last_match w R (suc k) a = cond (route_matches w a (R k)) (R k).port (last_match w R k a)

-- the scan of the words of a list, which refuses as the check does
unfoldable pub list_scan : ℕ → List ℕ → ℕ → Answer
list_scan w words a = and_then (list_check w words) (accepted (scan_of w (route_at words) (route_count words) a))
