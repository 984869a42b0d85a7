-- For the proofs: what the inner functions of packing ask of each other and leave. Assumes nothing.
use Rattle.std.specs.Prelude.{◌≡◌, List, ◌++◌, ℕ, ◌-◌, ◌≤◌, replicate}
use Rattle.lists.specs.Numbered.{list_of}
use Rattle.segment_rules.specs.Packed.{codewords, most_kept, ones_below, codeword, kept}
use Rattle.segment_pack.specs.declared.Code.{Code}
use Rattle.segment_pack.specs.Pack.{code_of, codes_of}

-- the block has the codewords, the entries kept of the first i, and zeros
abbrev pub packed_to : List ℕ → ℕ → List ℕ
packed_to entries i =
    list_of (codeword entries) codewords 0 ++ (kept entries i ++ replicate (most_kept - ones_below entries i) 0)

-- the codewords are the segment's, and it has a packed form
pub record Coded (entries : List ℕ) (c : List Code) : Type 0 where
  pub is : c ≡ codes_of entries
  pub few : ones_below entries 256 ≤ most_kept

-- the same of codeword c alone
pub record CodedAt (entries : List ℕ) (code : Code) (c : ℕ) : Type 0 where
  pub is : code ≡ code_of entries c
  pub few : ones_below entries 256 ≤ most_kept
