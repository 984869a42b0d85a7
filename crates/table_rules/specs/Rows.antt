-- Defines rows as memory, and layouts of rows: RULES, "The table". Where a row lies in the words is no matter here: memory is a
-- function from the row's number. Assumes nothing.
use Rattle.std.specs.Prelude.{◌≡◌, Bool, cond, [], ◌∷◌, ℕ, ◌^◌, ◌<◌}
use Rattle.bits.specs.Bits.{Bits, prefix_bits}
use Rattle.routes.specs.declared.Route.{Route}
use Rattle.table_rules.specs.declared.Row.{Row}

abbrev pub Mem : Type 0
Mem = ℕ → Row

-- the left child, and at true the right one; "0 as a child means none"
abbrev pub child : Row → Bool → ℕ
child x b = cond b x.right x.left

-- the row of a place, the bits on the way to it from row r
abbrev pub row_of : Mem → ℕ → Bits → ℕ
row_of M r [] = r
row_of M r (b ∷ place) = row_of M (child (M r) b) place

abbrev pub route_of : Row → Route
route_of x = record { value = x.value; len = x.len; port = x.port }

-- the bits of the row's prefix
abbrev pub row_bits : ℕ → Row → Bits
row_bits w x = prefix_bits w x.value x.len

-- a row with a route and no child
abbrev pub leaf_row : Route → Row
leaf_row q = record { value = q.value; len = q.len; port = q.port; left = 0; right = 0 }

-- the row with another route
abbrev pub with_route : Row → Route → Row
with_route x q = record { value = q.value; len = q.len; port = q.port; left = x.left; right = x.right }

-- the row with another child on one side
abbrev pub with_child : Row → Bool → ℕ → Row
with_child x b c =
    record { value = x.value; len = x.len; port = x.port; left = cond b x.left c; right = cond b c x.right }

-- Where rows lie: what reads one, what stores one, and how many there are.
pub record Layout (S : Type 0) : Type 0 where
  pub get : S → Mem
  pub put : S → ℕ → Row → S
  pub room : S → ℕ

-- What is read and stored obeys these laws below the room, for values of w bits.
pub record Stores {S : Type 0} (w : ℕ) (L : Layout S) : Type 0 where
  pub room_put : (s : S) (r : ℕ) (x : Row) → L.room (L.put s r x) ≡ L.room s
  pub get_same : (s : S) (r : ℕ) (x : Row) → r < L.room s → x.value < 2 ^ w → L.get (L.put s r x) r ≡ x
  pub get_other : (s : S) (r i : ℕ) (x : Row) → (i ≡ r → ⊥) → L.get (L.put s r x) i ≡ L.get s i
