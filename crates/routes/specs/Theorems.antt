-- States what this layer is there for: RULES, "The route list", "Order of the checks" and "The plain scan". Proofs are in proofs/.
-- Assumes nothing.
use Rattle.std.specs.Prelude.{◌≡◌, List, map, ◌⊎◌, ◌↔◌, ℕ, ◌%◌, ◌^◌, ◌≤◌, ◌<◌, length}
use Rattle.bits.specs.Bits.{bits}
use Rattle.trie.specs.Routes.{held}
use Rattle.trie.specs.Scan.{scan}
use Rattle.refusals.specs.Refusals.{wrong_size, long_prefix, not_above, too_many_routes, refused, accepted}
use Rattle.routes.specs.Bounds.{most_routes}
use Rattle.routes.specs.Routes.{route_at, route_count, bit_route, ValidList, Words, Sized}
use Rattle.lists.specs.Numbered.{list_of}
use Rattle.routes.specs.Check.{fault_at, FirstFault, list_check}
use Rattle.routes.specs.Scan.{scan_of, last_match}
use Rattle.routes.specs.declared.Route.{Route}

-- "exactly in the listed case": done if and only if the list is valid
abbrev pub CheckDone : Type 0
CheckDone =
    (w : ℕ) (words : List ℕ) → Words w words
    → (list_check w words ≡ accepted 0) ↔ ((length words % 3 ≡ 0) × ValidList w (route_at words) (route_count words))

-- a list that is well sized is refused m at i if and only if route i is the first at fault, and m its first fault
abbrev pub CheckRefused : Type 0
CheckRefused =
    (w : ℕ) (words : List ℕ) (m i : ℕ) → Sized words → (m ≡ 0 → ⊥)
    → (list_check w words ≡ refused m i) ↔ FirstFault (fault_at w (route_at words)) (route_count words) m i

-- 3 before all else, then 8
abbrev pub CheckUnsized : Type 0
CheckUnsized =
    (w : ℕ) (words : List ℕ)
    → ((length words % 3 ≡ 0 → ⊥) → list_check w words ≡ refused wrong_size 0)
    × (length words % 3 ≡ 0 → most_routes < route_count words → list_check w words ≡ refused too_many_routes 0)

-- and for no other list: one that is well sized is done, or refused 4 to 7
abbrev pub CheckSized : Type 0
CheckSized =
    (w : ℕ) (words : List ℕ) → Sized words
    → ((list_check w words).number ≡ 0) ⊎ ((long_prefix ≤ (list_check w words).number) × ((list_check w words).number ≤ not_above))

-- on a valid list the longest match is the last one
abbrev pub ScanIsLast : Type 0
ScanIsLast = (w : ℕ) (R : ℕ → Route) (n a : ℕ) → ValidList w R n → scan_of w R n a ≡ last_match w R n a

-- the plain scan of a valid list is that of the set it holds
abbrev pub ScanIsHeld : Type 0
ScanIsHeld =
    (w : ℕ) (R : ℕ → Route) (n a : ℕ) → ValidList w R n → a < 2 ^ w
    → scan_of w R n a ≡ scan (held (map (bit_route w) (list_of R n 0))) (bits w a)
