-- Defines the ports of neighbouring blocks of addresses, by runs in words, and where the search for a later block resumes. A block has 2^shift
-- addresses and goes to the port of its first. It is total: blocks that do not all lie within the 2^32 addresses have no ports. RULES,
-- "Segment tables". Assumes nothing.
use Rattle.std.specs.Prelude.{Bool, cond, ◌&&◌, List, ℕ, zero, suc, ◌+◌, ◌*◌, ◌/◌, ◌^◌, leb, length}
use Rattle.promise.specs.Over.{Outcome, outcome}
use Rattle.lists.specs.Numbered.{list_of}
use Rattle.segment_ports.specs.RunSearch.{run_of, port_from}

-- so many blocks, from number `block` on, are among the 2^32 / 2^shift that there are
unfoldable pub lie_within : ℕ → ℕ → ℕ → Bool
lie_within block size shift = leb shift 32 && leb (block + size) (2 ^ 32 / 2 ^ shift)

-- the run of the last of so many blocks: from there on that of a later one may be sought
unfoldable pub run_after : List ℕ → ℕ → ℕ → ℕ → ℕ → ℕ
run_after runs from block shift zero = from
run_after runs from block shift (suc k) = run_of runs from ((block + k) * 2 ^ shift)

-- their ports, one entry each
abbrev pub ports_from : List ℕ → ℕ → ℕ → ℕ → ℕ → Outcome ℕ
ports_from runs from block shift size =
    outcome (run_after runs from block shift size) (list_of (λ b. port_from runs from (b * 2 ^ shift)) size block)

-- in the entries lent, as many as there are; if the blocks do not lie within the addresses, the entries stay
unfoldable pub ports_into : List ℕ → ℕ → ℕ → ℕ → List ℕ → Outcome ℕ
ports_into runs from block shift entries =
    cond (lie_within block (length entries) shift) (ports_from runs from block shift (length entries)) (outcome from entries)
