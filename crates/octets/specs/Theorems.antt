-- States that the bytes of a prefix are the fewest: RULES, "The route file". The proof is in proofs/. Assumes nothing.
use Rattle.std.specs.Prelude.{ℕ, ◌*◌, ◌≤◌}
use Rattle.octets.specs.Octets.{prefix_bytes}

-- "The prefix takes as few bytes as hold (length) bits": they hold them, and no fewer do
abbrev pub FewestBytes : Type 0
FewestBytes = (len : ℕ) → (len ≤ 8 * prefix_bytes len) × ((k : ℕ) → len ≤ 8 * k → prefix_bytes len ≤ k)
