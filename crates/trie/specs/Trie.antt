-- Defines the priority trie, its rule and its lookup: RULES, "The table". No flag tells a priority node from an ordinary one: a node has
-- the bits of its prefix BELOW its own path, and is ordinary exactly if it has none. Neither depth nor width occurs. Assumes nothing.
use Rattle.std.specs.Prelude.{◌≡◌, Bool, true, false, cond, ◌&&◌, ◌||◌, [], ◌∷◌, ℕ, ◌+◌, ◌<◌, eqb, ltb, length}
use Rattle.bits.specs.Bits.{Bits, value, begins}
use Rattle.trie.specs.Routes.{Routes, upd, side}

-- no node; or a node with its prefix's bits, its port, and the child on each side
pub data Trie : Type 0 where
  leaf : Trie
  node : Bits → ℕ → (Bool → Trie) → Trie

-- "the longest route of S, at equal length the one with the smallest value"
abbrev pub ahead : Bits → Bits → Bool
ahead s q = ltb (length q) (length s) || (eqb (length q) (length s) && ltb (value s) (value q))

-- s is to hold a place rather than q. "If the prefix p itself is in S, the node holds it": no bits go first
abbrev pub outranks : Bits → Bits → Bool
outranks s [] = false
outranks [] (b ∷ q) = true
outranks (a ∷ s) (b ∷ q) = ahead (a ∷ s) (b ∷ q)

-- no route of S is to hold the place rather than s
abbrev pub Top : Routes → Bits → Type 0
Top S s = (q : Bits) → 0 < S q → outranks q s ≡ false

-- the node's part of the rule, with what its children have to be
pub record NodeRule (S : Routes) (s : Bits) (p : ℕ) (Rest : Bool → Type 0) : Type 0 where
  pub some : 0 < p
  pub own : S s ≡ p
  pub top : Top S s
  pub rest : (b : Bool) → Rest b

-- "If S is empty there is no node." Else the node holds the top of S, and "the rest of S is split by bit d into the two
-- children, by the same rule"
abbrev pub IsTrie : Trie → Routes → Type 0
IsTrie leaf S = (q : Bits) → S q ≡ 0
IsTrie (node s p c) S = NodeRule S s p (λ b. IsTrie (c b) (side b (upd S s 0)))

-- a priority node: its length is above its depth
abbrev pub is_priority : Bits → Bool
is_priority [] = false
is_priority (b ∷ s) = true

-- "if its prefix matches, it becomes the best"
abbrev pub better : Bits → ℕ → Bits → ℕ → ℕ
better s p a best = cond (begins s a) p best

-- "a matching priority node ends the search"
abbrev pub ends : Bits → Bits → Bool
ends s a = begins s a && is_priority s

-- Lookup: the best's port, with the best so far. "otherwise go on to the child that the next address bit names. No child, or
-- [no bit left], ends it."
abbrev pub port : Trie → Bits → ℕ → ℕ
port leaf a best = best
port (node s p c) [] best = better s p [] best
port (node s p c) (b ∷ a) best = cond (ends s (b ∷ a)) p (port (c b) a (better s p (b ∷ a) best))

-- the rows read
abbrev pub reads : Trie → Bits → ℕ
reads leaf a = 0
reads (node s p c) [] = 1
reads (node s p c) (b ∷ a) = cond (ends s (b ∷ a)) 1 (1 + reads (c b) a)
