-- States what this layer is there for: RULES, "The plain scan" and "The table". Proofs are in proofs/. Assumes nothing.
use Rattle.std.specs.Prelude.{◌≡◌, Bool, true, false, ◌⊎◌, ℕ, ◌+◌, ◌<◌, ◌≤◌, eqb, length}
use mathlib.Core.List.{List, Memᴰ}
use Rattle.bits.specs.Bits.{Bits}
use Rattle.trie.specs.Routes.{Route, Routes, upd, held, Distinct, Ported}
use Rattle.trie.specs.Scan.{plain_scan, scan_list, scan}
use Rattle.trie.specs.Trie.{Trie, leaf, IsTrie, port, reads}
use Rattle.trie.specs.Update.{insert, grows, insert_all, remove}

-- what the plain scan answers: the port of a route that matches, none that matches being longer; or 0, and none matches
abbrev pub PlainScanIs : Type 1
PlainScanIs =
    (X : Type 0) (match : X → Bool) (len port : X → ℕ) (rs : List X)
    → ((plain_scan match len port rs ≡ 0) × ((x : X) → Memᴰ x rs → match x ≡ false))
    ⊎ ((r : X) × Memᴰ r rs × (match r ≡ true) × (plain_scan match len port rs ≡ port r)
    × ((x : X) → Memᴰ x rs → match x ≡ true → len x ≤ len r))

-- the plain scan of a list is that of the set it holds
abbrev pub ScanListIsScan : Type 0
ScanListIsScan = (rs : List Route) (a : Bits) → Distinct rs → Ported rs → scan_list rs a ≡ scan (held rs) a

-- a trie that obeys the rule gives the plain scan's port for every address
abbrev pub PortIsScan : Type 0
PortIsScan = (t : Trie) (S : Routes) (a : Bits) → IsTrie t S → port t a 0 ≡ scan S a

-- "at most 33" at 32 bits: one row more than the address has bits
abbrev pub ReadsLe : Type 0
ReadsLe = (t : Trie) (a : Bits) → reads t a ≤ length a + 1

-- the rule has at most one trie for a set
abbrev pub TrieUnique : Type 0
TrieUnique = (t u : Trie) (S : Routes) → IsTrie t S → IsTrie u S → t ≡ u

-- and one for each set that is announced
abbrev pub TrieExists : Type 0
TrieExists = (rs : List Route) → Ported rs → IsTrie (insert_all leaf rs) (held rs)

-- an announcement gives the trie of the changed set
abbrev pub InsertIs : Type 0
InsertIs = (t : Trie) (S : Routes) (q : Bits) (p : ℕ) → 0 < p → IsTrie t S → IsTrie (insert q p t) (upd S q p)

-- it makes a node more exactly if the prefix was not held
abbrev pub GrowsIs : Type 0
GrowsIs = (t : Trie) (S : Routes) (q : Bits) → IsTrie t S → grows q t ≡ eqb (S q) 0

-- a withdrawal of a route that is held gives the trie of the changed set
abbrev pub RemoveIs : Type 0
RemoveIs = (t : Trie) (S : Routes) (q : Bits) → 0 < S q → IsTrie t S → IsTrie (remove q t) (upd S q 0)

-- lists of the same routes, each with different prefixes, give one trie, whatever their order
abbrev pub OrderDoesNotMatter : Type 0
OrderDoesNotMatter =
    (rs qs : List Route) → Distinct rs → Distinct qs → Ported rs
    → ((x : Route) → Memᴰ x rs → Memᴰ x qs) → ((x : Route) → Memᴰ x qs → Memᴰ x rs)
    → insert_all leaf rs ≡ insert_all leaf qs
