-- Defines who is to hold a place of the trie, on values and lengths: RULES, "The table". Assumes nothing.
use Rattle.std.specs.Prelude.{Bool, not, ◌&&◌, ◌||◌, ℕ, ltb}
use Rattle.bits.specs.Prefix.{ahead_of}

-- (v, l) is to hold a place at this depth rather than (v', l'): the place's own prefix first, then the one ahead
abbrev pub outranks_at : ℕ → ℕ → ℕ → ℕ → ℕ → Bool
outranks_at depth v l v' l' = ltb depth l' && (not (ltb depth l) || ahead_of v l v' l')
