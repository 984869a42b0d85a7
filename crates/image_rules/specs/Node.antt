-- Defines where a node lies in the words lent, and what its words say: RULES, "Nodes". No other definition says where a word of a node
-- is; in code image_nodes alone does. Assumes nothing.
use Rattle.std.specs.Prelude.{Bool, cond, ◌&&◌, List, [], ◌∷◌, ℕ, ◌+◌, ◌-◌, ◌*◌, ◌/◌, ltb, leb, length, get_or}
use Rattle.std.proofs.lemmas.List.Edits.{sets}

abbrev pub node_size : ℕ
node_size = 2

-- the bitmap, then the offset
abbrev pub node_words : ℕ → ℕ → List ℕ
node_words bitmap offset = bitmap ∷ offset ∷ []

-- "the next unused node number minus its own"; the first non-leaf child has that number, if there is one
abbrev pub offset : ℕ → ℕ → ℕ
offset next own = next - own

-- "the whole nodes lent"
abbrev pub node_count : List ℕ → ℕ
node_count nodes = length nodes / node_size

-- "a node number of 0 or past the whole nodes lent" is none: nodes are "numbered from 1"
abbrev pub is_node : List ℕ → ℕ → Bool
is_node nodes a = ltb 0 a && leb a (node_count nodes)

-- the place of node a's first word
abbrev pub node_start : ℕ → ℕ
node_start a = (a - 1) * node_size

abbrev pub bitmap_of : List ℕ → ℕ → ℕ
bitmap_of nodes a = get_or nodes (node_start a) 0

abbrev pub offset_of : List ℕ → ℕ → ℕ
offset_of nodes a = get_or nodes (node_start a + 1) 0

-- "a + offset": where a was built, the next unused number
abbrev pub next_of : List ℕ → ℕ → ℕ
next_of nodes a = a + offset_of nodes a

-- "The leaf base of node a is then 2^s times (a-1), minus (a + offset - 2)": of the slots of all earlier nodes, n each, those that are
-- no child's
abbrev pub base_of : ℕ → List ℕ → ℕ → ℕ
base_of n nodes a = n * (a - 1) - (next_of nodes a - 2)

-- whether node a has a leaf base: not "where a + offset is below 2 or the leaf base would be negative"
abbrev pub is_based : ℕ → List ℕ → ℕ → Bool
is_based n nodes a = leb 2 (next_of nodes a) && leb (next_of nodes a - 2) (n * (a - 1))

-- the words of some nodes, stored from node a on
abbrev pub store_nodes : List ℕ → ℕ → List ℕ → List ℕ
store_nodes nodes a words = sets nodes (node_start a) words

-- the words of node a stored; where it is not lent whole nothing is
unfoldable pub store_node : List ℕ → ℕ → List ℕ → List ℕ
store_node nodes a words = cond (is_node nodes a) (store_nodes nodes a words) nodes
