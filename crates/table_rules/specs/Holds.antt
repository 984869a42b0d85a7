-- Defines when rows hold a trie, and good order: RULES, "Good order". Assumes nothing.
use Rattle.std.specs.Prelude.{◌≡◌, Bool, true, false, cond, [], ◌∷◌, ◌++◌, ℕ, ◌+◌, ◌<◌, ◌≤◌, eqb, ltb}
use Rattle.bits.specs.Bits.{Bits}
use Rattle.trie.specs.Routes.{Routes}
use Rattle.trie.specs.Trie.{Trie, leaf, node, IsTrie}
use Rattle.routes.specs.Routes.{ValidRoute}
use Rattle.table_rules.specs.Rows.{Mem, child, route_of, row_bits}

-- "0 as a child means none": the word c names a row exactly where there is a node
abbrev pub Names : ℕ → Trie → Type 0
Names c leaf = c ≡ 0
Names c (node s p k) = 0 < c

-- row r holds the node with bits s and port p at a path: its prefix is the path and then s
pub record RowHolds (w : ℕ) (M : Mem) (path : Bits) (r : ℕ) (s : Bits) (p : ℕ) (Below : Bool → Type 0) : Type 0 where
  pub valid : ValidRoute w (route_of (M r))
  pub bits : row_bits w (M r) ≡ path ++ s
  pub port : (M r).port ≡ p
  pub below : (b : Bool) → Below b

-- these rows hold this trie, from row r at a path on
abbrev pub Holds : ℕ → Mem → Bits → ℕ → Trie → Type 0
Holds w M path r leaf = Unit {0}
Holds w M path r (node s p k) =
    RowHolds w M path r s p (λ b. Names (child (M r) b) (k b) × Holds w M (path ++ (b ∷ [])) (child (M r) b) (k b))

-- whether a row is the one asked for
abbrev pub hit : ℕ → ℕ → ℕ
hit r i = cond (eqb i r) 1 0

-- how often row i is reached from row r, where the rows hold a trie of this shape
abbrev pub times : Mem → ℕ → Trie → ℕ → ℕ
times M r leaf i = 0
times M r (node s p k) i = hit r i + (times M (child (M r) false) (k false) i + times M (child (M r) true) (k true) i)

-- "every row below n is reached exactly once from row 0", and "the trie is the one above" for S
pub record Placed (w : ℕ) (M : Mem) (n : ℕ) (S : Routes) : Type 0 where
  pub trie : Trie
  pub rule : IsTrie trie S
  pub holds : Holds w M [] 0 trie
  pub once : (i : ℕ) → times M 0 trie i ≡ cond (ltb i n) 1 0

-- "its routes are valid with different prefixes": S is just the set of the rows' routes
pub record HeldIn (w : ℕ) (M : Mem) (n : ℕ) (S : Routes) : Type 0 where
  pub valid : (i : ℕ) → i < n → ValidRoute w (route_of (M i))
  pub different : (i j : ℕ) → i < n → j < n → row_bits w (M i) ≡ row_bits w (M j) → i ≡ j
  pub here : (i : ℕ) → i < n → S (row_bits w (M i)) ≡ (M i).port
  pub only : (q : Bits) → 0 < S q → (i : ℕ) × (i < n) × (row_bits w (M i) ≡ q)

-- "A table is in good order if n is at most the capacity, every row below n is reached exactly once from row 0, its routes are
-- valid with different prefixes, and the trie is the one above for them": for exactly the routes S
pub record GoodFor (w capacity : ℕ) (M : Mem) (n : ℕ) (S : Routes) : Type 0 where
  pub few : n ≤ capacity
  pub routes : HeldIn w M n S
  pub placed : Placed w M n S

abbrev pub GoodOrder : ℕ → ℕ → Mem → ℕ → Type 0
GoodOrder w capacity M n = (S : Routes) × GoodFor w capacity M n S
