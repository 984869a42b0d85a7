-- Defines a file with its spare bits cleared, on its bytes: RULES, "The route file". Assumes nothing.
use Rattle.std.specs.Prelude.{◌≡◌, List, ℕ, zero, suc, ◌+◌, ◌-◌, ◌*◌, ◌%◌, ◌^◌, ◌<◌, get_or, set}
use Rattle.octets.specs.Octets.{prefix_bytes, len_at}
use Rattle.file_rules.specs.File.{place_of}

-- "the trailing bits of the last prefix byte": how many there are; a /0 has no byte, and none
abbrev pub spare_count : ℕ → ℕ
spare_count len = 8 * prefix_bytes len - len

-- the offset of the last prefix byte of the route at an offset; a /0 has none, and then it is that of the length byte
abbrev pub last_byte : List ℕ → ℕ → ℕ
last_byte file at = at + prefix_bytes (len_at file at)

-- the number that the spare bits of the route at an offset write
abbrev pub spare_at : List ℕ → ℕ → ℕ
spare_at file at = get_or file (last_byte file at) 0 % 2 ^ spare_count (len_at file at)

-- the file with the spare bits of its first n routes cleared, and every other bit as it was
unfoldable pub cleared_file : List ℕ → ℕ → List ℕ
cleared_file file zero = file
cleared_file file (suc i) =
    let last : ℕ = last_byte file (place_of file i) in
    set (cleared_file file i) last (get_or file last 0 - spare_at file (place_of file i))

-- the spare bits of the first n routes are zero
abbrev pub SpareZero : List ℕ → ℕ → Type 0
SpareZero file n = (i : ℕ) → i < n → spare_at file (place_of file i) ≡ 0
