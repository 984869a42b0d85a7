-- Defines the check of good order as a walk: RULES, "Good order". It marks nothing and needs no memory: a row is
-- met only at paths that its prefix begins with, so a row met twice would be below itself, and the depth ends that. A priority
-- node must be strictly ahead of the best of everything below it; below an ordinary one there may be longer routes, so the best
-- is handed up. Assumes nothing.
use Rattle.std.specs.Prelude.{Bool, true, false, cond, not, ◌&&◌, ◌||◌, ℕ, zero, suc, ◌+◌, ◌-◌, ◌*◌, ◌^◌, eqb, ltb}
use Rattle.bits.specs.Bits.{bit}
use Rattle.table_rules.specs.Rows.{Mem}
use Rattle.bits.specs.Prefix.{ahead_of}
use Rattle.table_rules.specs.Lookup.{wrong_row}
use Rattle.table_rules.specs.declared.Row.{Row}

-- what the check has seen of a subtree: whether a row is wrong; else how many rows, and the value and length of the one that goes first
pub record Seen : Type 0 where
  pub wrong : Bool
  pub rows : ℕ
  pub value : ℕ
  pub len : ℕ

-- `rows` rows, of which (value, len) goes first
abbrev pub seen : ℕ → ℕ → ℕ → Seen
seen rows value len = record { wrong = false; rows = rows; value = value; len = len }

abbrev pub no_rows : Seen
no_rows = seen 0 0 0

abbrev pub wrong_rows : Seen
wrong_rows = record { wrong = true; rows = 0; value = 0; len = 0 }

-- of two subtrees, the one whose best goes first; one without rows never does
abbrev pub first_seen : Seen → Seen → Seen
first_seen a b =
    cond (eqb b.rows 0) a
    (cond (eqb a.rows 0) b (cond (ahead_of b.value b.len a.value a.len) b a))

-- a row over all that is below it, of which `first` goes first, at a depth: "the node holds the longest route of S"
abbrev pub seen_over : Row → ℕ → ℕ → Seen → Seen
seen_over x depth rows first =
    cond (eqb first.rows 0) (seen rows x.value x.len)
    (cond (ltb depth x.len)
    (cond (ahead_of x.value x.len first.value first.len) (seen rows x.value x.len) wrong_rows)
    (seen rows first.value first.len))

-- a row and its two subtrees
abbrev pub seen_join : Row → ℕ → Seen → Seen → Seen
seen_join x depth l r =
    cond (l.wrong || r.wrong) wrong_rows (seen_over x depth (l.rows + r.rows + 1) (first_seen l r))

-- the path on a side of a path with k bits after it
abbrev pub path_on : ℕ → ℕ → Bool → ℕ
path_on path k b = path + bit b * 2 ^ k

-- the rows from r on, at a path with k bits left; the path is an address, zero from there on
unfoldable pub seen_at : ℕ → Mem → ℕ → ℕ → ℕ → ℕ → Seen
seen_at w M n zero path r =
    cond (wrong_row w (M r) n path w || not (eqb (M r).left 0) || not (eqb (M r).right 0)) wrong_rows (seen 1 (M r).value (M r).len)
seen_at w M n (suc k) path r =
    cond (wrong_row w (M r) n path (w - suc k)) wrong_rows
    (seen_join (M r) (w - suc k)
    (cond (eqb (M r).left 0) no_rows (seen_at w M n k (path_on path k false) (M r).left))
    (cond (eqb (M r).right 0) no_rows (seen_at w M n k (path_on path k true) (M r).right)))

-- every row below n, once, and the trie of the rule
unfoldable pub is_good : ℕ → ℕ → Mem → ℕ → Bool
is_good w capacity M n =
    cond (ltb capacity n) false
    (cond (eqb n 0) true (not (seen_at w M n w 0 0).wrong && eqb (seen_at w M n w 0 0).rows n))
