-- States what this layer is there for: RULES, "The table". Proofs are in proofs/. Assumes nothing.
use Rattle.std.specs.Prelude.{◌≡◌, ◌↔◌, true, cond, List, map, ℕ, ◌+◌, ◌-◌, ◌^◌, ◌<◌, ◌≤◌, eqb, ltb, length, get_or}
use Rattle.bits.specs.Bits.{bits, prefix_bits}
use Rattle.bits.specs.Prefix.{Valid}
use Rattle.trie.specs.Routes.{Routes, upd, held}
use Rattle.trie.specs.Scan.{scan}
use Rattle.trie.specs.Trie.{reads}
use Rattle.refusals.specs.Refusals.{not_in_order, found, lost}
use Rattle.routes.specs.Bounds.{most_routes}
use Rattle.routes.specs.Routes.{route, bit_route, ValidRoute, ValidList}
use Rattle.routes.specs.declared.Route.{Route}
use Rattle.table_rules.specs.Rows.{Mem, Layout, Stores}
use Rattle.table_rules.specs.Holds.{Placed, GoodFor, GoodOrder}
use Rattle.table_rules.specs.Lookup.{lookup_in}
use Rattle.table_rules.specs.RowsRead.{RowsRead}
use Rattle.table_rules.specs.Check.{is_good}
use Rattle.table_rules.specs.Save.{saved}
use Rattle.table_rules.specs.Announce.{is_held, announced}
use Rattle.table_rules.specs.Withdraw.{zero_row, withdrawn}
use Rattle.routes.specs.Scan.{scan_of}

-- on a table in good order the lookup answers the plain scan's port, and reads as many rows as the path in the trie is long
abbrev pub LookupIsScan : Type 0
LookupIsScan =
    (w capacity : ℕ) (M : Mem) (n a : ℕ) (S : Routes) (good : GoodFor w capacity M n S) → a < 2 ^ w
    → lookup_in w capacity M n a ≡ found (scan S (bits w a)) (reads good.placed.trie (bits w a))

-- "the rows read, at most 33": on any rows, at most one more than the address has bits
abbrev pub ReadsLe : Type 0
ReadsLe = (w capacity : ℕ) (M : Mem) (n a : ℕ) → (lookup_in w capacity M n a).reads ≤ w + 1

-- of any table with routes, in good order or not, the lookup reads the rows on the address's way to where it ends, and is refused
-- 11 exactly if the last of them is wrong
abbrev pub LookupReads : Type 0
LookupReads =
    (w capacity : ℕ) (M : Mem) (n a : ℕ) → 0 < n → n ≤ capacity
    → RowsRead w M n a (lookup_in w capacity M n a).reads (lookup_in w capacity M n a).number

-- no other number of rows, and no other number of a refusal, would do
abbrev pub RowsReadOne : Type 0
RowsReadOne =
    (w : ℕ) (M : Mem) (n a k k' number number' : ℕ) → RowsRead w M n a k number → RowsRead w M n a k' number'
    → (k ≡ k') × (number ≡ number')

-- "With n = 0 no row is read; the answer is port 0"; "refused 11 if n is above the capacity, with no row read"
abbrev pub LookupReadsNone : Type 0
LookupReadsNone =
    (w capacity : ℕ) (M : Mem) (n a : ℕ)
    → (n ≡ 0 → lookup_in w capacity M n a ≡ found 0 0) × (capacity < n → lookup_in w capacity M n a ≡ lost not_in_order 0)

-- the check answers yes exactly where the table is in good order
abbrev pub CheckIsGood : Type 0
CheckIsGood = (w capacity : ℕ) (M : Mem) (n : ℕ) → (is_good w capacity M n ≡ true) ↔ GoodOrder w capacity M n

-- a table in good order is so for one set of routes
abbrev pub GoodUnique : Type 0
GoodUnique = (w capacity : ℕ) (M : Mem) (n : ℕ) (S T : Routes) → GoodFor w capacity M n S → GoodFor w capacity M n T → S ≡ T

-- the saved list is valid, has n routes, and is the same set as the table's
pub record SavedWell (w : ℕ) (rs : List Route) (n : ℕ) (S : Routes) : Type 0 where
  pub size : length rs ≡ n
  pub list : ValidList w (λ i. get_or rs i (route 0 0 0)) n
  pub same : held (map (bit_route w) rs) ≡ S

abbrev pub SavedIs : Type 0
SavedIs =
    (w capacity : ℕ) (M : Mem) (n : ℕ) (S : Routes) → GoodFor w capacity M n S → n ≤ most_routes → SavedWell w (saved w M n) n S

-- a prefix is held in the rows exactly if it has a port in the set
abbrev pub HeldIs : Type 0
HeldIs =
    (w : ℕ) (M : Mem) (n : ℕ) (S : Routes) (q : Route) → Placed w M n S → Valid w q.value q.len
    → is_held w M n q ≡ ltb 0 (S (prefix_bits w q.value q.len))

-- "A prefix already held gets the new port. A new prefix makes n one larger ... the new place in the trie gets row n": the rows
-- hold the trie of the changed set, and no row from n on is touched but the new one
pub record Announced (w : ℕ) (M M' : Mem) (n : ℕ) (S : Routes) (q : Route) : Type 0 where
  pub placed :
      Placed w M' (cond (eqb (S (prefix_bits w q.value q.len)) 0) (n + 1) n) (upd S (prefix_bits w q.value q.len) q.port)
  pub rest : (i : ℕ) → n ≤ i → (S (prefix_bits w q.value q.len) ≡ 0 → i ≡ n → ⊥) → M' i ≡ M i

abbrev pub AnnouncedIs : Type 1
AnnouncedIs =
    (X : Type 0) (L : Layout X) (w : ℕ) → Stores w L
    → (s : X) (n : ℕ) (S : Routes) (q : Route) → Placed w (L.get s) n S → ValidRoute w q → n ≤ L.room s
    → (S (prefix_bits w q.value q.len) ≡ 0 → n < L.room s) → Announced w (L.get s) (L.get (announced L w s n q)) n S q

-- "Row n-1 is then five zeros. Other rows from n on are never touched": the rows hold the trie of the set without the route
pub record Withdrawn (w : ℕ) (M M' : Mem) (n : ℕ) (S : Routes) (q : Route) : Type 0 where
  pub placed : Placed w M' (n - 1) (upd S (prefix_bits w q.value q.len) 0)
  pub last : M' (n - 1) ≡ zero_row
  pub rest : (i : ℕ) → n ≤ i → M' i ≡ M i

abbrev pub WithdrawnIs : Type 1
WithdrawnIs =
    (X : Type 0) (L : Layout X) (w : ℕ) → Stores w L
    → (s : X) (n : ℕ) (S : Routes) (q : Route) → Placed w (L.get s) n S → Valid w q.value q.len → n ≤ L.room s
    → 0 < S (prefix_bits w q.value q.len) → Withdrawn w (L.get s) (L.get (withdrawn L w s n q)) n S q

-- on a table that the check accepts, the lookup is not refused, and answers the plain scan's port of the saved list
pub record LooksUp (w capacity : ℕ) (M : Mem) (n a : ℕ) : Type 0 where
  pub done : (lookup_in w capacity M n a).number ≡ 0
  pub port : (lookup_in w capacity M n a).port ≡ scan_of w (λ i. get_or (saved w M n) i (route 0 0 0)) n a

abbrev pub LookupIsSavedScan : Type 0
LookupIsSavedScan =
    (w capacity : ℕ) (M : Mem) (n a : ℕ) → is_good w capacity M n ≡ true → n ≤ most_routes → a < 2 ^ w → LooksUp w capacity M n a
