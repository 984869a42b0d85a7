-- Defines what a reader finds at an offset of any bytes: a whole prefix, or why there is none. Assumes nothing.
use Rattle.std.specs.Prelude.{cond, List, ℕ, ◌+◌, leb, length, Result, Ok, Err}
use Rattle.octets.specs.Octets.{prefix_size, len_at, prefix_at}
use Rattle.prefix.specs.declared.Prefix.{Prefix}
use Rattle.octets.specs.declared.NoPrefix.{NoPrefix}
use Rattle.octets.specs.declared.NoPrefix.TheVariants.{Long, Cut}

-- a prefix, or why there is none
abbrev pub Taken : Type 0
Taken = Result Prefix NoPrefix

-- the length first, then the bytes that it says; where no byte is left the length counts as 0, and the prefix is cut
unfoldable pub taken_at : ℕ → List ℕ → ℕ → Taken
taken_at w bytes at =
    cond (leb (len_at bytes at) w)
    (cond (leb (at + prefix_size (len_at bytes at)) (length bytes)) (Ok (prefix_at w bytes at)) (Err Cut))
    (Err Long)
