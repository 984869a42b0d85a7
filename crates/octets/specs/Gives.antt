-- Defines what the functions on bytes give, with the bounds that their callers want. Assumes nothing.
use Rattle.std.specs.Prelude.{◌≡◌, List, ℕ, ◌*◌, ◌^◌, ◌<◌, take, drop}
use Rattle.octets.specs.Bytes.{number}
use Rattle.octets.specs.Octets.{prefix_bytes, prefix_size}

-- r is how many bytes hold a prefix
pub record BytesFor (len r : ℕ) : Type 0 where
  pub is : r ≡ prefix_bytes len
  pub small : r < 2 ^ 30

-- r is how many bytes a prefix takes, with its length byte
pub record SizeFor (len r : ℕ) : Type 0 where
  pub is : r ≡ prefix_size len
  pub small : r < 2 ^ 30

-- r is the byte b
pub record ByteIs (b r : ℕ) : Type 0 where
  pub is : r ≡ b
  pub small : r < 2 ^ 8

-- r is the number that k bytes write, or those of them that are there
pub record NumberAt (bytes : List ℕ) (from k r : ℕ) : Type 0 where
  pub is : r ≡ number (take k (drop from bytes))
  pub small : r < 2 ^ (8 * k)
