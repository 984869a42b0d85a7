-- Defines which rows the places of a trie have before and after a call: RULES, "Announce" and "Withdraw". The row of a place is
-- `row_of` in table_rules. Assumes nothing.
use Rattle.std.specs.Prelude.{◌≡◌, cond, [], ◌∷◌, ℕ, ◌-◌, eqb}
use Rattle.bits.specs.Bits.{Bits}
use Rattle.trie.specs.Trie.{Trie, leaf, node}
use Rattle.table_rules.specs.Rows.{Mem, row_of}

-- a trie has a node at a place: the bits on the way from its root
abbrev pub HasPlace : Trie → Bits → Type 0
HasPlace leaf at = ⊥
HasPlace (node s p c) [] = Unit {0}
HasPlace (node s p c) (b ∷ at) = HasPlace (c b) at

-- "existing nodes keep their rows, the new place in the trie gets row n"
pub record PlacesGrow (M M' : Mem) (n : ℕ) (t t' : Trie) : Type 0 where
  pub kept : (at : Bits) → HasPlace t at → HasPlace t' at × (row_of M' 0 at ≡ row_of M 0 at)
  pub new : (at : Bits) → HasPlace t' at → (HasPlace t at → ⊥) → row_of M' 0 at ≡ n

-- "row n-1, where it is not the one freed, moves to the freed number"
abbrev pub moved_to : ℕ → ℕ → ℕ → ℕ
moved_to last freed r = cond (eqb r last) freed r

-- one place is gone; "other places keep their rows, except that row n-1 ... moves to the freed number"
pub record PlacesShrink (M M' : Mem) (n : ℕ) (t t' : Trie) : Type 0 where
  pub gone : Bits
  pub was : HasPlace t gone
  pub only : (at : Bits) → HasPlace t at → (HasPlace t' at → ⊥) → at ≡ gone
  pub is_not : HasPlace t' gone → ⊥
  pub kept : (at : Bits) → HasPlace t' at → HasPlace t at × (row_of M' 0 at ≡ moved_to (n - 1) (row_of M 0 gone) (row_of M 0 at))
