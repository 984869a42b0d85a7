-- States which rows and words the calls leave, and that no others would do: RULES, "Announce" and "Withdraw". Proofs are in proofs/.
-- Assumes nothing.
use Rattle.std.specs.Prelude.{◌≡◌, cond, List, ℕ, ◌+◌, ◌-◌, ◌^◌, ◌<◌, ◌≤◌, eqb, length}
use Rattle.promise.specs.Over.{Outcome, outcome}
use Rattle.refusals.specs.Refusals.{accepted}
use Rattle.refusals.specs.declared.Answer.{Answer}
use Rattle.bits.specs.Bits.{Bits, prefix_bits}
use Rattle.bits.specs.Prefix.{Valid}
use Rattle.trie.specs.Routes.{Routes, upd}
use Rattle.routes.specs.Routes.{ValidRoute}
use Rattle.routes.specs.declared.Route.{Route}
use Rattle.table_rules.specs.Rows.{Mem, Layout, Stores, row_of}
use Rattle.table_rules.specs.Holds.{Placed, GoodFor}
use Rattle.table_rules.specs.Announce.{announced}
use Rattle.table_rules.specs.Withdraw.{withdrawn}
use Rattle.table_rules.specs.Theorems.{Announced, Withdrawn}
use Rattle.table_rows.specs.Words.{row_count, capacity, row_at, five_words}
use Rattle.table_update.specs.Calls.{announce_into, prefix_only, withdraw_into}
use Rattle.table_places.specs.Places.{HasPlace, PlacesGrow, PlacesShrink}
use Rattle.table_places.specs.Words.{after_rows}

-- an announcement keeps the rows of the places, and the new place has row n, whatever trie the rows are read as
abbrev pub AnnouncedPlaces : Type 1
AnnouncedPlaces =
    (X : Type 0) (L : Layout X) (w : ℕ) → Stores w L
    → (s : X) (n : ℕ) (S : Routes) (q : Route) (old : Placed w (L.get s) n S) → ValidRoute w q → n ≤ L.room s
    → let y : Bits = prefix_bits w q.value q.len in
    (S y ≡ 0 → n < L.room s)
    → (new : Placed w (L.get (announced L w s n q)) (cond (eqb (S y) 0) (n + 1) n) (upd S y q.port))
    → PlacesGrow (L.get s) (L.get (announced L w s n q)) n old.trie new.trie

-- a withdrawal keeps the rows of the places that stay, but that row n-1 moves to the number of the place that goes
abbrev pub WithdrawnPlaces : Type 1
WithdrawnPlaces =
    (X : Type 0) (L : Layout X) (w : ℕ) → Stores w L
    → (s : X) (n : ℕ) (S : Routes) (q : Route) (old : Placed w (L.get s) n S) → Valid w q.value q.len → n ≤ L.room s
    → let y : Bits = prefix_bits w q.value q.len in
    0 < S y → (new : Placed w (L.get (withdrawn L w s n q)) (n - 1) (upd S y 0))
    → PlacesShrink (L.get s) (L.get (withdrawn L w s n q)) n old.trie new.trie

-- memories that hold one set of routes, with the same rows of places and the same rest, are one
abbrev pub RowsUnique : Type 0
RowsUnique =
    (w : ℕ) (M M' : Mem) (n : ℕ) (S : Routes) (x : Placed w M n S) (y : Placed w M' n S)
    → ((at : Bits) → HasPlace x.trie at → row_of M 0 at ≡ row_of M' 0 at) → ((i : ℕ) → n ≤ i → M i ≡ M' i) → M ≡ M'

-- what an announcement does to the rows, whole: the trie of the changed set, the rows of its places, and the rows past it
pub record AnnouncedWhole (w : ℕ) (M M' : Mem) (n : ℕ) (S : Routes) (q : Route) (old : Placed w M n S) : Type 0 where
  pub rows : Announced w M M' n S q
  pub places : PlacesGrow M M' n old.trie rows.placed.trie

-- no other rows would do
abbrev pub AnnouncedWholeOne : Type 0
AnnouncedWholeOne =
    (w : ℕ) (M M' M'' : Mem) (n : ℕ) (S : Routes) (q : Route) (old : Placed w M n S)
    → AnnouncedWhole w M M' n S q old → AnnouncedWhole w M M'' n S q old → M' ≡ M''

-- and the announced rows do
abbrev pub AnnouncedWholeIs : Type 1
AnnouncedWholeIs =
    (X : Type 0) (L : Layout X) (w : ℕ) → Stores w L
    → (s : X) (n : ℕ) (S : Routes) (q : Route) (old : Placed w (L.get s) n S) → ValidRoute w q → n ≤ L.room s
    → (S (prefix_bits w q.value q.len) ≡ 0 → n < L.room s)
    → AnnouncedWhole w (L.get s) (L.get (announced L w s n q)) n S q old

-- what a withdrawal does to the rows, whole: "Row n-1 is then five zeros" among it
pub record WithdrawnWhole (w : ℕ) (M M' : Mem) (n : ℕ) (S : Routes) (q : Route) (old : Placed w M n S) : Type 0 where
  pub rows : Withdrawn w M M' n S q
  pub places : PlacesShrink M M' n old.trie rows.placed.trie

-- no other rows would do
abbrev pub WithdrawnWholeOne : Type 0
WithdrawnWholeOne =
    (w : ℕ) (M M' M'' : Mem) (n : ℕ) (S : Routes) (q : Route) (old : Placed w M n S) → 0 < n
    → WithdrawnWhole w M M' n S q old → WithdrawnWhole w M M'' n S q old → M' ≡ M''

-- and the rows without the route do
abbrev pub WithdrawnWholeIs : Type 1
WithdrawnWholeIs =
    (X : Type 0) (L : Layout X) (w : ℕ) → Stores w L
    → (s : X) (n : ℕ) (S : Routes) (q : Route) (old : Placed w (L.get s) n S) → Valid w q.value q.len → n ≤ L.room s
    → 0 < S (prefix_bits w q.value q.len) → WithdrawnWhole w (L.get s) (L.get (withdrawn L w s n q)) n S q old

-- words are their whole rows and the words after these: two lists of as many words that agree there are one
abbrev pub WordsUnique : Type 0
WordsUnique =
    (words lent : List ℕ) → length words ≡ length lent → ((i : ℕ) → i < row_count words → row_at words i ≡ row_at lent i)
    → after_rows words ≡ after_rows lent → words ≡ lent

-- what an announcement does to the words lent: to the rows as above, and no word after them and not their number changes
pub record AnnouncedWords (w : ℕ) (words lent : List ℕ) (n : ℕ) (S : Routes) (q : Route) (old : Placed w (row_at words) n S) : Type 0 where
  pub whole : AnnouncedWhole w (row_at words) (row_at lent) n S q old
  pub size : length lent ≡ length words
  pub after : after_rows lent ≡ after_rows words

-- an accepted announcement leaves such words
abbrev pub AnnouncedWordsIs : Type 0
AnnouncedWordsIs =
    (w : ℕ) (words : List ℕ) (n : ℕ) (S : Routes) (q : Route) (good : GoodFor w (capacity words) (row_at words) n S) → q.value < 2 ^ w
    → let left : Outcome Answer = announce_into five_words w words n q in
    left.answer.number ≡ 0 → AnnouncedWords w words left.lent n S q good.placed

-- and such words are those that it leaves, with the n that it answers: "A new prefix makes n one larger"
abbrev pub AnnouncedWordsOne : Type 0
AnnouncedWordsOne =
    (w : ℕ) (words lent : List ℕ) (n : ℕ) (S : Routes) (q : Route) (good : GoodFor w (capacity words) (row_at words) n S) → q.value < 2 ^ w
    → let left : Outcome Answer = announce_into five_words w words n q in
    left.answer.number ≡ 0 → AnnouncedWords w words lent n S q good.placed
    → left ≡ outcome (accepted (cond (eqb (S (prefix_bits w q.value q.len)) 0) (n + 1) n)) lent

-- what a withdrawal does to the words lent
pub record WithdrawnWords (w : ℕ) (words lent : List ℕ) (n : ℕ) (S : Routes) (q : Route) (old : Placed w (row_at words) n S) : Type 0 where
  pub whole : WithdrawnWhole w (row_at words) (row_at lent) n S q old
  pub size : length lent ≡ length words
  pub after : after_rows lent ≡ after_rows words

-- an accepted withdrawal leaves such words
abbrev pub WithdrawnWordsIs : Type 0
WithdrawnWordsIs =
    (w : ℕ) (words : List ℕ) (n : ℕ) (S : Routes) (value len : ℕ) (good : GoodFor w (capacity words) (row_at words) n S) → value < 2 ^ w
    → let left : Outcome Answer = withdraw_into five_words w words n value len in
    left.answer.number ≡ 0 → WithdrawnWords w words left.lent n S (prefix_only value len) good.placed

-- and such words are those that it leaves, with n one smaller
abbrev pub WithdrawnWordsOne : Type 0
WithdrawnWordsOne =
    (w : ℕ) (words lent : List ℕ) (n : ℕ) (S : Routes) (value len : ℕ) (good : GoodFor w (capacity words) (row_at words) n S) → value < 2 ^ w
    → let left : Outcome Answer = withdraw_into five_words w words n value len in
    left.answer.number ≡ 0 → WithdrawnWords w words lent n S (prefix_only value len) good.placed
    → left ≡ outcome (accepted (n - 1)) lent
