-- Defines the set of routes that a trie holds: RULES, "The table". Assumes nothing.
use Rattle.std.specs.Prelude.{Bool, [], ◌∷◌}
use Rattle.trie.specs.Routes.{Routes, upd}
use Rattle.trie.specs.Trie.{Trie, leaf, node}

-- the sets of both sides, each with its bit in front
abbrev pub joined : (Bool → Routes) → Routes
joined R [] = 0
joined R (b ∷ q) = R b q

-- a node's own route, and those of both sides
abbrev pub set_of : Trie → Routes
set_of leaf q = 0
set_of (node s p c) q = upd (joined (λ b. set_of (c b))) s p q
