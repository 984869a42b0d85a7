-- Defines the plain scan, over a list and over a set: RULES, "The plain scan". Assumes nothing.
use Rattle.std.specs.Prelude.{Bool, cond, ◌&&◌, List, [], ◌∷◌, ℕ, zero, suc, ◌+◌, leb, length}
use Rattle.bits.specs.Bits.{Bits, begins}
use Rattle.trie.specs.Routes.{Route, Routes, side}

-- over any kind of route that has a match test, a length and a port
module _ {X : Type 0} (match : X → Bool) (len port : X → ℕ) where
  -- one more than the length of the longest route that matches; 0 if none does
  unfoldable pub longest : List X → ℕ
  longest [] = 0
  longest (r ∷ rs) = cond (match r && leb (longest rs) (len r)) (len r + 1) (longest rs)

  -- "of the routes that match, the port of the longest; 0 if none matches"
  unfoldable pub plain_scan : List X → ℕ
  plain_scan [] = 0
  plain_scan (r ∷ rs) = cond (match r && leb (longest rs) (len r)) (port r) (plain_scan rs)

-- the plain scan of routes by their bits
abbrev pub scan_list : List Route → Bits → ℕ
scan_list rs a = plain_scan (λ r. begins r.prefix a) (λ r. length r.prefix) (λ r. r.port) rs

-- the first where it is a port, else the second
abbrev pub or_else : ℕ → ℕ → ℕ
or_else zero b = b
or_else (suc a) b = suc a

-- the plain scan of a set: over the prefixes of an address, the longest first
abbrev pub scan : Routes → Bits → ℕ
scan S [] = S []
scan S (b ∷ a) = or_else (scan (side b S) a) (S [])
