-- Defines the lookup on any rows: RULES, "Lookup in a table". Assumes nothing.
use Rattle.std.specs.Prelude.{Bool, cond, not, ◌&&◌, ◌||◌, ℕ, zero, suc, ◌+◌, ◌-◌, eqb, leb, ltb}
use Rattle.bits.specs.Prefix.{clear, matches}
use Rattle.refusals.specs.Refusals.{not_in_order, found, lost}
use Rattle.routes.specs.Check.{is_port}
use Rattle.table_rules.specs.Rows.{Mem, child}
use Rattle.table_rules.specs.declared.Row.{Row}
use Rattle.refusals.specs.declared.found.Found.{Found}
use Rattle.bits.specs.Bits.{bit_before}

-- "a row read has either child number n or more, a length above 32 or below its depth, bits past its length, a port outside
-- 1..4094, or a prefix that differs from the address in the first (depth) bits"
abbrev pub wrong_row : ℕ → Row → ℕ → ℕ → ℕ → Bool
wrong_row w x n a depth =
    leb n x.left || leb n x.right || ltb w x.len || ltb x.len depth || not (clear w x.value x.len)
    || not (is_port x.port) || not (matches w a depth x.value)

abbrev pub row_matches : ℕ → Row → ℕ → Bool
row_matches w x a = matches w x.value x.len a

-- "a matching priority node ends the search": its length is above its depth
abbrev pub ends_at : ℕ → Row → ℕ → ℕ → Bool
ends_at w x a depth = row_matches w x a && ltb depth x.len

-- "if its prefix matches, it becomes the best"
abbrev pub better_of : ℕ → Row → ℕ → ℕ → ℕ
better_of w x a best = cond (row_matches w x a) x.port best

-- at a row that was read: refused, ended, or on with the best so far
abbrev pub visit : ℕ → Row → ℕ → ℕ → ℕ → ℕ → ℕ → (ℕ → Found) → Found
visit w x n a depth best reads on =
    cond (wrong_row w x n a depth) (lost not_in_order reads)
    (cond (ends_at w x a depth) (found x.port reads) (on (better_of w x a best)))

-- on to a child: "No child ... ends it"
abbrev pub onward : ℕ → ℕ → ℕ → Found → Found
onward c best reads next = cond (eqb c 0) (found best reads) next

-- the search from row r on, with k bits of the address left; "or depth 32, ends it"
unfoldable pub walk : ℕ → Mem → ℕ → ℕ → ℕ → ℕ → ℕ → ℕ → Found
walk w M n a zero r best reads = visit w (M r) n a w best (reads + 1) (λ b. found b (reads + 1))
walk w M n a (suc k) r best reads =
    visit w (M r) n a (w - suc k) best (reads + 1)
    (λ b.
    onward (child (M r) (bit_before a k)) b (reads + 1)
    (walk w M n a k (child (M r) (bit_before a k)) b (reads + 1)))

-- the lookup: "It answers 11 if n exceeds the capacity (no row read)"; "Nothing is read if n = 0"
unfoldable pub lookup_in : ℕ → ℕ → Mem → ℕ → ℕ → Found
lookup_in w capacity M n a = cond (ltb capacity n) (lost not_in_order 0) (cond (eqb n 0) (found 0 0) (walk w M n a w 0 0 0))
