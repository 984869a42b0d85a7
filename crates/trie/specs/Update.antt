-- Defines how a trie takes a route in and gives one back: RULES, "Announce" and "Withdraw". Assumes nothing.
use Rattle.std.specs.Prelude.{Bool, true, false, cond, List, [], ◌∷◌, ℕ}
use Rattle.bits.specs.Bits.{Bits, same}
use Rattle.trie.specs.Routes.{Route}
use Rattle.trie.specs.Trie.{Trie, leaf, node, ahead, outranks}

-- the child c on side b, after f took x, without its first bit, on x's own side
abbrev pub down : Bool → Bits → Trie → (Bits → Trie) → Trie
down b [] c f = c
down false (false ∷ x) c f = f x
down false (true ∷ x) c f = c
down true (false ∷ x) c f = c
down true (true ∷ x) c f = f x

-- "A prefix already held gets the new port." A new one takes the place of a holder that it outranks, who goes on down.
abbrev pub insert : Bits → ℕ → Trie → Trie
insert q p leaf = node q p (λ b. leaf)
insert q p (node s o c) =
    cond (same q s) (node s p c)
    (cond (outranks q s)
    (node q p (λ b. down b s (c b) (λ x. insert x o (c b))))
    (node s o (λ b. down b q (c b) (λ x. insert x p (c b)))))

-- whether an insertion makes a node more: "A new prefix makes n one larger"
abbrev pub grows_on : Bits → (Bool → Bits → Bool) → Bool
grows_on [] f = true
grows_on (b ∷ x) f = f b x

abbrev pub grows : Bits → Trie → Bool
grows q leaf = true
grows q (node s o c) = cond (same q s) false (grows_on (cond (outranks q s) s q) (λ b x. grows x (c b)))

-- the routes of a list, inserted one after the other
unfoldable pub insert_all : Trie → List Route → Trie
insert_all t [] = t
insert_all t (r ∷ rs) = insert_all (insert r.prefix r.port t) rs

-- a route to fill a place with, if there is one
pub data Best : Type 0 where
  none : Best
  some : Bits → ℕ → Best

abbrev pub lift : Bool → Best → Best
lift b none = none
lift b (some s p) = some (b ∷ s) p

abbrev pub first_of : Best → Best → Best
first_of none y = y
first_of (some s p) none = some s p
first_of (some s p) (some q o) = cond (ahead q s) (some q o) (some s p)

abbrev pub or_own : Best → ℕ → Best
or_own none p = some [] p
or_own (some s o) p = some s o

-- the best of both children, by its bits below the node
abbrev pub below : (Bool → Best) → Best
below x = first_of (lift false (x false)) (lift true (x true))

-- The best of a whole subtree by length and value. A priority node is the best of its own; an ordinary one may hide a longer one.
abbrev pub best : Trie → Best
best leaf = none
best (node [] p c) = or_own (below (λ b. best (c b))) p
best (node (b ∷ s) p c) = some (b ∷ s) p

-- "the place it leaves is filled by the same rule from below, down to a leaf that falls away"
abbrev pub refill : Best → (Bool → Trie) → (Bool → Bits → Trie) → Trie
refill none c f = leaf
refill (some s p) c f = node s p (λ b. down b s (c b) (f b))

abbrev pub remove : Bits → Trie → Trie
remove q leaf = leaf
remove q (node s o c) =
    cond (same q s)
    (refill (below (λ b. best (c b))) c (λ b x. remove x (c b)))
    (node s o (λ b. down b q (c b) (λ x. remove x (c b))))
