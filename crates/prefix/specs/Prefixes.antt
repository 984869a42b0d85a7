-- Defines the halves of a prefix as prefixes: RULES, "Addresses and prefixes". The halves of a single address, which has none, are
-- that address: RULES, "Readings". Assumes nothing.
use Rattle.std.specs.Prelude.{◌≡◌, cond, ℕ, ◌+◌, ◌^◌, ◌<◌, ◌≤◌, ltb}
use Rattle.bits.specs.Prefix.{span, first, middle}
use Rattle.prefix.specs.declared.Prefix.{Prefix}

abbrev pub prefix : ℕ → ℕ → Prefix
prefix value len = record { value = value; len = len }

abbrev pub left_half : ℕ → Prefix → Prefix
left_half w p = cond (ltb p.len w) (prefix (first w p.value p.len) (p.len + 1)) p

abbrev pub right_half : ℕ → Prefix → Prefix
right_half w p = cond (ltb p.len w) (prefix (middle w p.value p.len) (p.len + 1)) p

-- r is the span of a length, with the bounds that callers want
pub record Spanned (w len r : ℕ) : Type 0 where
  pub is : r ≡ span w len
  pub some : 0 < r
  pub most : r ≤ 2 ^ w
