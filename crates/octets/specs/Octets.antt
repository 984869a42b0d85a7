-- Defines a prefix of w-bit addresses as bytes, one of length and the fewest that hold it, and where it stands among others: RULES,
-- "The route file". Assumes nothing.
use Rattle.std.specs.Prelude.{cond, List, [], ◌∷◌, ◌++◌, ℕ, ◌+◌, ◌-◌, ◌*◌, ◌/◌, ◌^◌, leb, length, get_or, take, drop}
use Rattle.std.proofs.Math.Seq.{paste}
use Rattle.bits.specs.Prefix.{first}
use Rattle.prefix.specs.Prefixes.{prefix}
use Rattle.prefix.specs.declared.Prefix.{Prefix}
use Rattle.octets.specs.Bytes.{number, digits}

-- "the fewest bytes that hold that many bits". "A /0 has no prefix byte."
abbrev pub prefix_bytes : ℕ → ℕ
prefix_bytes len = (len + 7) / 8

-- the bytes of a prefix: its length, and those that hold it
abbrev pub prefix_size : ℕ → ℕ
prefix_size len = prefix_bytes len + 1

-- the bits of an address that the bytes of a prefix leave out
abbrev pub bits_after : ℕ → ℕ → ℕ
bits_after w len = w - 8 * prefix_bytes len

-- reading: the prefix whose first byte is at an offset

-- "one byte prefix length in bits"
abbrev pub len_at : List ℕ → ℕ → ℕ
len_at bytes at = get_or bytes at 0

-- the bytes of a prefix are the first bits of its value
abbrev pub value_from : ℕ → List ℕ → ℕ → ℕ → ℕ
value_from w bytes from len = number (take (prefix_bytes len) (drop from bytes)) * 2 ^ bits_after w len

-- the prefix of a length from those bytes, the bits past it cleared: the one place that says what becomes of spare bits
abbrev pub prefix_from : ℕ → List ℕ → ℕ → ℕ → Prefix
prefix_from w bytes from len = prefix (first w (value_from w bytes from len) len) len

-- the prefix at an offset: its bytes follow its length
abbrev pub prefix_at : ℕ → List ℕ → ℕ → Prefix
prefix_at w bytes at = prefix_from w bytes (at + 1) (len_at bytes at)

-- writing

-- "one byte prefix length in bits, the fewest bytes that hold that many bits"
abbrev pub prefix_octets : ℕ → ℕ → ℕ → List ℕ
prefix_octets w value len = (len ∷ []) ++ digits (prefix_bytes len) (value / 2 ^ bits_after w len)

-- bytes stored from an offset on, the others as they were
abbrev pub stored : List ℕ → ℕ → List ℕ → List ℕ
stored bytes at new = paste bytes at new (length new)

-- the same where there is room for them; else no byte changes
unfoldable pub put_at : List ℕ → ℕ → List ℕ → List ℕ
put_at bytes at new = cond (leb (at + length new) (length bytes)) (stored bytes at new) bytes

-- a prefix stored so, if it is one
unfoldable pub prefix_put : ℕ → List ℕ → ℕ → ℕ → ℕ → List ℕ
prefix_put w bytes at value len = cond (leb len w) (put_at bytes at (prefix_octets w value len)) bytes
