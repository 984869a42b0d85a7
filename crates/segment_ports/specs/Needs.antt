-- For the proofs: what filling entries with ports asks, and what a builder takes from it. Assumes nothing.
use Rattle.std.specs.Prelude.{◌≡◌, List, ℕ, ◌+◌, ◌*◌, ◌^◌, ◌≤◌}
use Rattle.lists.specs.Numbered.{list_of}
use Rattle.segment_ports.specs.RunSearch.{port_from}

-- the blocks of 2^shift addresses from number `block` on, as many as there are entries, lie below 2^32
pub record Blocks (block size shift : ℕ) : Type 0 where
  pub small : shift ≤ 32
  pub few : block + size ≤ 2 ^ 32
  pub within : (block + size) * 2 ^ shift ≤ 2 ^ 32

-- the runs from c on tell the port of every address from one on as those from `from` on do
abbrev pub Resumes : List ℕ → ℕ → ℕ → ℕ → Type 0
Resumes runs from c at = (a : ℕ) → at ≤ a → port_from runs from a ≡ port_from runs c a

-- each entry is the port of its block's first address, and where the search of a later address may resume
pub record Ported (runs : List ℕ) (from block size shift next : ℕ) (left : List ℕ) : Type 0 where
  pub entries : left ≡ list_of (λ b. port_from runs from (b * 2 ^ shift)) size block
  pub resumes : Resumes runs from next ((block + size) * 2 ^ shift)
